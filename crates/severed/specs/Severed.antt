-- A cable without places. Assumes nothing.
use Rattle.std.specs.Prelude.{ℕ}
use Rattle.cable.specs.Model.{Model, no_line, numbered}

abbrev pub without_places : ℕ → ℕ → Model
without_places pairs left = record { left = left; lines = numbered pairs (λ _. no_line) }
