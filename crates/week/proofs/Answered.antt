-- The answer of the reader, put together from what its parts answer.
use Rattle.std.proofs.Common.{◌≡◌, ℕ, List, length, drop, Ok, Err, Result, ap, ◌∙◌}
use Rattle.rules.specs.Results.{and_then}
use Rattle.book.specs.Books.{Book, closing}
use Rattle.book.specs.Drafts.{Draft, fresh}
use Rattle.week.specs.declared.week.At.{At}
use Rattle.week.specs.Weeks.{Goals, ended_with, rules_from, goals_from, open_fault, closed_at, with_goals, reading}

-- The three ways out

module _ (d : Draft) (file : List ℕ) (new : d ≡ fresh) where
  rules_are : {x : Result (ℕ × Draft) At} → x ≡ rules_from (length file) 0 d file → and_then x (closed_at file) ≡ reading file
  rules_are h = ap (λ x. and_then x (closed_at file)) (h ∙ ap (λ a. rules_from (length file) 0 a file) new)

  pub refused_in_rules : (a : At) (e : Draft) → ended_with (Err a) e ≡ rules_from (length file) 0 d file → Err a ≡ reading file
  refused_in_rules a e h = rules_are h

  pub refused_at_end : (p : ℕ) (a : At) (e : Draft) → ended_with (Ok p) e ≡ rules_from (length file) 0 d file → Err a ≡ open_fault e file → Err a ≡ reading file
  refused_at_end p a e h o = ap (λ x. and_then x (λ _. Ok (with_goals (closing e) p (goals_from 1025 p (drop p file))))) o ∙ rules_are h

  pub read_whole : (p : ℕ) (u : Unit {0}) (e : Draft) (b : Book) (gs : Goals) → ended_with (Ok p) e ≡ rules_from (length file) 0 d file → Ok u ≡ open_fault e file
      → b ≡ closing e → gs ≡ goals_from 1025 p (drop p file) → Ok (with_goals b p gs) ≡ reading file
  read_whole p u e b gs h o c g =
      (λ i. Ok (with_goals (c i) p (g i)))
      ∙ ap (λ x. and_then x (λ _. Ok (with_goals (closing e) p (goals_from 1025 p (drop p file))))) o
      ∙ rules_are h
