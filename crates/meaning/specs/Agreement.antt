-- The due instance in words and as a function are one. Assumes nothing.
--     Proper s t       ranks are lawful, ids rise, and every rule is closed and small
--     DueAgrees R      over ranks of the kind R: what the function gives is the due instance, or none
--                      where nothing waits; no two are due; where something waits, one is due
use Rattle.std.specs.Prelude.{◌≡◌, true, Some}
use Rattle.facts.specs.Positions.{all}
use Rattle.rules.specs.Rules.{closed, small}
use Rattle.store.specs.Store.{Rising}
use Rattle.meaning.specs.declared.due.Due.{Due}
use Rattle.meaning.specs.Setup.{Setup, State, Lawful}
use Rattle.meaning.specs.Instances.{Waits, IsDue, DueIs}
use Rattle.meaning.specs.Enumeration.{due_of}

pub record Proper {R : Type 0} (s : Setup R) (t : State) : Type 0 where
  pub ranks : Lawful s.better
  pub ids : Rising t.facts
  pub bound : all closed s.rules ≡ true
  pub sizes : all small s.rules ≡ true

pub record DueAgrees (R : Type 0) : Type 0 where
  pub value : (s : Setup R) (t : State) → Proper s t → DueIs s t (due_of s t)
  pub one : (s : Setup R) (t : State) (d e : Due R) → IsDue s t d → IsDue s t e → d ≡ e
  pub some : (s : Setup R) (t : State) → Proper s t → (d : Due R) → Waits s t d → (e : Due R) × (due_of s t ≡ Some e)
