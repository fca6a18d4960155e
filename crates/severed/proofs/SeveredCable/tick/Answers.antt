use Rattle.std.proofs.Common.{◌-◌, sym, refl, ◌∙◌, arith}
use Rattle.cable.proofs.Cases.{tick_done}
use Rattle.cable.proofs.Shown.{same_models}
use Rattle.severed.specs.Severed.{without_places}
use Rattle.severed.specs.Shows.{lines_ticked}
use Rattle.severed.proofs.SeveredCable.tick.Goals as goal

pub returns : goal.returns
returns c =
    let n = c.args.self.now.pairs in
    let left = c.args.self.now.left in
    let e = tick_done (without_places n left) (omega arith) in
    record { said = e.said; after = same_models {b = left - 1} refl (sym (lines_ticked n)) ∙ e.after }
