-- Instances, waiting and the due instance, in words. Assumes nothing.
-- σ gives every variable its number, so that one variable has one number throughout; s is a setup, t a
-- state.
--     number σ o          the number of an operand
--     Agrees σ h f        the fact f is of the head's kind, and its values are the head's operands
--     ids_of fs           the ids of facts
--     Instance live hs σ fs   one live fact for each head, all different, in head order
--     padded ids          four ids, 0 where there is no head
--     Yes s σ g           the host says yes to the guard g
--     Waits s t d         d names an instance, the host says yes to every guard, no firing of the
--                         same rule with the same ids in the same order is on the roll, and its
--                         rank is the one that the order makes
--     Earlier d e         d has the smaller rule number, then the smaller first id, second id, ..
--     IsDue s t d         d waits, nothing that waits is better, and d is earlier than all else that is
--                         level with it
--     DueIs s t r         r is the due instance, or none where nothing waits
use Rattle.std.specs.Prelude.{◌≡◌, ℕ, ◌<◌, true, false, ◌⊎◌, List, [], ◌∷◌, ◌++◌, map, take, ℤ, Some, None, Option}
use Rattle.facts.specs.declared.Fact.{Fact}
use Rattle.records.specs.declared.parts.Guard.{Guard}
use Rattle.records.specs.declared.parts.Head.{Head}
use Rattle.records.specs.declared.parts.Operand.{Operand}
use Rattle.records.specs.declared.parts.Operand.TheVariants.{Constant, Variable}
use Rattle.rules.specs.Rules.{Rule}
use Rattle.meaning.specs.declared.roll.Entry.TheVariants.{Fired}
use Rattle.meaning.specs.declared.due.Due.{Due}
use Rattle.meaning.specs.Setup.{Setup, State}
use Rattle.meaning.specs.Words.{In, All, Both, Different, Sooner, Numbered}

abbrev pub number : (ℕ → ℤ) → Operand → ℤ
number σ (Constant n) = n
number σ (Variable v) = σ v

pub record Agrees (σ : ℕ → ℤ) (h : Head) (f : Fact) : Type 0 where
  pub kind : f.kind ≡ h.kind
  pub values : map (number σ) h.operands ≡ f.values

abbrev pub ids_of : List Fact → List ℕ
ids_of fs = map (λ f. f.id) fs

pub record Instance (live : List Fact) (heads : List Head) (σ : ℕ → ℤ) (facts : List Fact) : Type 0 where
  pub alive : All (λ f. In f live) facts
  pub different : Different (ids_of facts)
  pub agree : Both (Agrees σ) heads facts

abbrev pub padded : List ℕ → List ℕ
padded is = take 4 (is ++ 0 ∷ 0 ∷ 0 ∷ 0 ∷ [])

module _ {R : Type 0} where
  abbrev pub Yes : Setup R → (ℕ → ℤ) → Guard → Type 0
  Yes s σ g = s.says g.comparator (number σ g.left) (number σ g.right) ≡ true

  pub record Waits (s : Setup R) (t : State) (d : Due R) : Type 0 where
    pub rule : Rule
    pub numbered : Numbered 1 s.rules d.rule rule
    pub σ : ℕ → ℤ
    pub facts : List Fact
    pub instance : Instance t.facts rule.heads σ facts
    pub named : d.ids ≡ padded (ids_of facts)
    pub applicable : All (Yes s σ) rule.guards
    pub unfired : In (Fired (record { rule = d.rule; ids = d.ids })) t.roll → ⊥
    pub ranked : d.rank ≡ s.rank rule.band (number σ rule.rank)

  abbrev pub Earlier : Due R → Due R → Type 0
  Earlier d e = (d.rule < e.rule) ⊎ ((d.rule ≡ e.rule) × Sooner d.ids e.ids)

  pub record IsDue (s : Setup R) (t : State) (d : Due R) : Type 0 where
    pub waits : Waits s t d
    pub best : (e : Due R) → Waits s t e → s.better e.rank d.rank ≡ false
    pub first : (e : Due R) → Waits s t e → s.better d.rank e.rank ≡ false → (e ≡ d) ⊎ Earlier d e

  abbrev pub DueIs : Setup R → State → Option (Due R) → Type 0
  DueIs s t None = (d : Due R) → Waits s t d → ⊥
  DueIs s t (Some d) = IsDue s t d
