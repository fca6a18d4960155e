use Rattle.std.proofs.Common.{◌-◌, ◌/◌, ◌^◌}
use lib.Bits.{and_mask}
use Rattle.std.proofs.lemmas.Nat.{mod_below, pow_pos}
use Rattle.frame.specs.Checks.{fed_bits}
use Rattle.frame.proofs.Steps.{masked, divided_next, divided_none}
use Rattle.frame.proofs.check.Divisor.feed.Goals as goal

pub loop-k-init : goal.loop-k-init
loop-k-init c =
    let d = c.args.self.degree in
    let is = masked d c.args.register c.args.self.narrow in
    (cc, rw is (mod_below c.args.register (2 ^ d) (pow_pos d)))

pub loop-k-preserved : goal.loop-k-preserved
loop-k-preserved c =
    let next = divided_next c.args.self.degree c.args.self.lower c.loop-k.state c.args.value c.loop-k.k c.loop-k-test.true in
    let bit = and_mask (c.args.value / 2 ^ (c.loop-k.k - 1)) 1 in
    (cc, c.step-state.ensures.bound)

pub returns : goal.returns
unfolding fed_bits
returns c =
    let all = divided_none c.args.self.degree c.args.self.lower c.loop-k.state c.args.value c.loop-k.k c.loop-k-test.false in
    record { value = cc; bound = c.loop-k.invariant.1 }
