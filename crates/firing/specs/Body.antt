-- A body worked out position by position. Assumes nothing.
--     value_at works e a n k w   the value of the k-th working w of the n-th body fact, of the arity a:
--                                0 where the position is unused, and the host is not asked
--     listed_or r                r with its facts as a list
use Rattle.std.specs.Prelude.{ℕ, cond, List, ℤ, pos, Ok, Err, Result, nat_lt}
use Rattle.few.specs.declared.Few.{Few}
use Rattle.few.specs.Few.{listed}
use Rattle.host.specs.declared.types.Cause.{Cause}
use Rattle.host.specs.declared.types.Working.{Working}
use Rattle.records.specs.declared.parts.Operand.{Operand}
use Rattle.meaning.specs.declared.refusal.WorkingFault.{WorkingFault}
use Rattle.meaning.specs.Enumeration.{Env}
use Rattle.meaning.specs.Firing.{put, placed}

module _ (works : Working ℤ → Result ℤ Cause) where
  abbrev pub value_at : Env → ℕ → ℕ → ℕ → Working Operand → Result ℤ WorkingFault
  value_at e a n k w = cond (nat_lt a k) (Ok (pos 0)) (placed n k (works (put e w)))

abbrev pub listed_or : {T E : Type 0} {N : ℕ} → Result (Few T N) E → Result (List T) E
listed_or (Ok ws) = Ok (listed ws)
listed_or (Err f) = Err f
