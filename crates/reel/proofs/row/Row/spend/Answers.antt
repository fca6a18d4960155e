use Rattle.std.proofs.Common.{◌-◌, refl}
use Rattle.cable.proofs.Shown.{same_models}
use Rattle.reel.specs.Rows.{parts_of}
use Rattle.reel.specs.Shows.{sound}
use Rattle.reel.proofs.Ticking.{tick_lines}
use Rattle.reel.proofs.row.Row.spend.Goals as goal

pub returns : goal.returns
returns g c =
    let r = parts_of g.P.Reuse.reused c.args.self.now in
    same_models {b = r.left - 1} refl (tick_lines r (sound g.P.Reuse.reused c.args.self.now))
