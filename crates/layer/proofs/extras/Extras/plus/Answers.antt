use Rattle.std.proofs.Common.{◌≡◌, arith}
use Rattle.std.proofs.lemmas.Grind.{common_steps}
use Rattle.layer.specs.Stretch.{sums_of}
use Rattle.layer.specs.Stretched.{one_stretch}
use Rattle.layer.proofs.extras.Extras.plus.Goals as goal

pub returns-clause-one_stretch : goal.returns-clause-one_stretch
returns-clause-one_stretch c =
    let sums : c.from_fn.result ≡ sums_of c.args.self.0 c.args.other.0 = grind (arith, common_steps) in
    rw sums (one_stretch c.args.self.0 c.args.other.0)
