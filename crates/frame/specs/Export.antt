-- How the read of a header answers C: one number. Assumes nothing.
use Rattle.std.specs.Prelude.{ℕ, ◌+◌, ◌*◌, ◌^◌, Ok, Err, Result}
use Rattle.frame.specs.declared.header.Fields.{Fields}
use Rattle.frame.specs.Refusals.{Refused}

-- C6 in bit 9, In6 in bit 8 and Data below; or a refusal's number from bit 16 on
abbrev pub packed : Result Fields Refused → ℕ
packed (Ok fields) = fields.c6 * 2 ^ 9 + fields.in6 * 2 ^ 8 + fields.«data»
packed (Err refused) = refused.number * 2 ^ 16
