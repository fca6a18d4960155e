use Rattle.std.proofs.Common.{◌≡◌, ◌+◌, ◌++◌, get_or, drop, mod-eq_of_lt}
use Rattle.std.proofs.lemmas.List.{at_drop_more, at_drop_all}
use Rattle.frame.specs.Checks.{fed_bits, fed}
use Rattle.frame.specs.Division.{bits, message}
use Rattle.frame.proofs.Feeding.{masked_in, fed_bits_append, fed_bits_nil, in_parts}
use Rattle.frame.proofs.Steps.{bits_are_bits}
use Rattle.frame.proofs.check.feed.Goals as goal

pub loop-byte-init : goal.loop-byte-init
loop-byte-init g c = masked_in _ _ _ _ _ c.start.ensures

pub loop-byte-preserved : goal.loop-byte-preserved
loop-byte-preserved g c =
    let d = g.C.Check.DEGREE in
    let l = g.C.Check.LOWER in
    let xs = c.args.bytes.now in
    let i = c.loop-byte.byte-index in
    let x = get_or xs i 0 in
    let next : fed d l c.loop-byte.state (drop i xs) ≡ fed_bits d l c.loop-byte.state (bits 8 x ++ message (drop (i + 1) xs))
    = at_drop_more (fed d l c.loop-byte.state) xs i 0 c.loop-byte-test.true in
    let parts = fed_bits_append d l c.loop-byte.state (bits 8 x) (message (drop (i + 1) xs)) g.met.C.Check.below (bits_are_bits 8 x) in
    (cc, c.feed_byte-state.ensures.bound)

pub returns : goal.returns
returns g c =
    let d = g.C.Check.DEGREE in
    let l = g.C.Check.LOWER in
    let xs = c.args.bytes.now in
    let r = c.loop-byte.state in
    let all = at_drop_all (fed d l r) xs c.loop-byte.byte-index c.loop-byte-test.false in
    let none = fed_bits_nil d l r in
    let is : r ≡ fed d l c.args.register xs = cc (mod-eq_of_lt c.loop-byte.invariant.1) in
    record {
      value = is;
      bound = c.loop-byte.invariant.1;
      in_parts = rw is (in_parts d l c.args.register xs g.met.C.Check.below);
    }
