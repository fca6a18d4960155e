use Rattle.cable.proofs.Ticks.{since_counts, since_at_delay_five}
use Rattle.cable.proofs.run.since_counts_ticks.Goals as goal

pub returns : goal.returns
returns g c = let m = g.K.Cable.model c.args.cable.now in record { counts = since_counts m; delay_five = since_at_delay_five m }
