-- What the refusals of a cable mean. Assumes nothing.
use Rattle.std.specs.Prelude.{ℕ, List, [], ◌∷◌, codes}
use Rattle.frame.specs.Refusals.{Refused}
use Rattle.cable.specs.declared.refusal.CableRefusal.{CableRefusal}
use Rattle.cable.specs.declared.refusal.CableRefusal.TheVariants.{NoTick, NoPlace, PairAbsent}

-- 15: no tick is left
abbrev pub tick_refused : Refused
tick_refused = record { number = 15; tells = [] }

-- 16: every place of pair p is used
abbrev pub place_refused : ℕ → Refused
place_refused p = record { number = 16; tells = p ∷ [] }

-- 22: the pair is absent
abbrev pub pair_refused : Refused
pair_refused = record { number = 22; tells = [] }

abbrev pub of_cable : CableRefusal → Refused
of_cable NoTick = tick_refused
of_cable (NoPlace p) = place_refused p
of_cable PairAbsent = pair_refused

-- what a person is told
abbrev pub words_for : CableRefusal → List ℕ
words_for NoTick = codes "no tick left"
words_for (NoPlace p) = codes "no place free"
words_for PairAbsent = codes "no such pair"
