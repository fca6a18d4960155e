use Rattle.std.proofs.Common.{◌≡◌, ◌^◌, length, ap, arith}
use Rattle.std.proofs.lemmas.List.FromFn.{length-map-range_with_len}
use Rattle.frame.specs.Checks.{fed_bits}
use Rattle.frame.specs.Division.{divided, bits}
use Rattle.frame.proofs.Feeding.{fed_bits_below}
use Rattle.frame.proofs.Steps.{bits_are_bits}
use Rattle.frame.proofs.Tables.{index_below, looked_up}
use Rattle.frame.proofs.check.Divisor.look_up.Goals as goal

pub bounds-table-sum : goal.bounds-table-sum
bounds-table-sum g c =
    let s = c.args.self in
    let p = c.requires in
    let size = length-map-range_with_len (λ v. divided s.degree s.lower 0 (bits c.args.count v)) 0 (2 ^ c.args.count) in
    let below = index_below s.degree s.lower c.args.count c.args.register c.args.value p.fits p.few in
    grind (arith, c.told-table, ap length p.table)

pub returns : goal.returns
returns g c =
    let s = c.args.self in
    let p = c.requires in
    let up = looked_up s.degree s.lower c.args.count c.args.register c.args.value p.fits p.few s.below in
    let is : c.from.result ≡ fed_bits s.degree s.lower c.args.register (bits c.args.count c.args.value) = cc (c.from.ensures) in
    record { value = is; bound = rw is (fed_bits_below _ _ _ _ s.below (bits_are_bits c.args.count c.args.value)) }
