-- A body worked out fact by fact.
use Rattle.std.proofs.Common.{ℕ, List, ◌++◌, ℤ, Ok, Result}
use Rattle.host.specs.declared.types.Cause.{Cause}
use Rattle.host.specs.declared.types.Working.{Working}
use Rattle.rules.specs.declared.BodyFact.{BodyFact}
use Rattle.rules.specs.Results.{and_then}
use Rattle.meaning.specs.declared.refusal.WorkingFault.{WorkingFault}
use Rattle.meaning.specs.declared.written.Written.{Written}
use Rattle.meaning.specs.Enumeration.{Env}
use Rattle.meaning.specs.Firing.{body_of}

-- what is done, then the facts that are left
abbrev pub onward : (Working ℤ → Result ℤ Cause) → Env → List Written → List BodyFact → ℕ → Result (List Written) WorkingFault
onward works e ws fs n = and_then (body_of works e fs n) (λ more. Ok (ws ++ more))
