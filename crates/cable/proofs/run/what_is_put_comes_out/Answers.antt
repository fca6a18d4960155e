use Rattle.cable.proofs.Running.{comes_out}
use Rattle.cable.proofs.run.what_is_put_comes_out.Goals as goal

pub returns : goal.returns
returns g c = comes_out (g.K.Cable.model c.args.cable.now)
