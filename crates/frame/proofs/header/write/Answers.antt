use Rattle.std.proofs.Common.{◌≡◌, ◌<◌, refl, arith}
use Rattle.frame.specs.Header.{header_of}
use Rattle.frame.proofs.Headers.{read_back, told_apart, changed_bit_refused}
use Rattle.frame.proofs.header.write.Goals as goal

value : (c : goal.After-joined) → c.joined.result ≡ header_of c.args.frame c.args.c6 c.args.data
unfolding header_of
value c = grind (arith, c.twelve_of-twelve.ensures.value)

pub returns : goal.returns
returns c =
    let f = c.args.frame in
    let b = c.args.c6 in
    let d = c.args.data in
    let byte : d < 256 = omega arith in
    rw (value c) (record {
      value = refl;
      read_back = read_back f b d byte;
      told_apart = λ c' d' h e. told_apart f c' d' b d h byte e;
      changed_bit_refused = λ k h. changed_bit_refused f b d k byte h;
    })
