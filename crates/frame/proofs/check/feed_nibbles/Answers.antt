use Rattle.std.proofs.Common.{◌-◌, ◌*◌, ◌/◌, ◌^◌, mod-eq_of_lt, arith}
use Rattle.frame.specs.Division.{bits}
use Rattle.frame.proofs.Feeding.{masked_in, fed_bits_append, fed_bits_nil}
use Rattle.frame.proofs.Steps.{bits_none, bits_split, bits_are_bits}
use Rattle.frame.proofs.check.feed_nibbles.Goals as goal

pub loop-k-init : goal.loop-k-init
loop-k-init g c = masked_in _ _ _ _ _ c.start.ensures

pub loop-k-preserved : goal.loop-k-preserved
loop-k-preserved g c =
    let v = c.args.value in
    let left = 4 * (c.loop-k.k - 1) in
    let nibble = v / 2 ^ left in
    let next = bits_split 4 left (4 * c.loop-k.k) v (omega arith) in
    let parts = fed_bits_append g.C.Check.DEGREE g.C.Check.LOWER c.loop-k.state (bits 4 nibble) (bits left v) g.met.C.Check.below (bits_are_bits 4 nibble) in
    (cc, c.feed_nibble-state.ensures.bound)

pub returns : goal.returns
returns g c =
    let all = fed_bits_nil g.C.Check.DEGREE g.C.Check.LOWER c.loop-k.state in
    let none = bits_none c.args.value (4 * c.loop-k.k) (omega arith) in
    record { value = cc (mod-eq_of_lt c.loop-k.invariant.1); bound = c.loop-k.invariant.1 }
