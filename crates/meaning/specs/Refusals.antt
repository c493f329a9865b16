-- The refusals of a run by their numbers. Assumes nothing.
--     number_at n p          the number n with the rule p; plain_number n, with nothing beside it
--     rule_of_site w         the rule that wanted a row or a place, 0 for a hand-in
--     refusal_numbers r      the number of r, then rule, body fact, working and cause, 0 where none
use Rattle.std.specs.Prelude.{ℕ}
use Rattle.host.specs.Causes.{cause_number}
use Rattle.meaning.specs.declared.refusal.Numbers.{Numbers}
use Rattle.meaning.specs.declared.refusal.Refusal.{Refusal}
use Rattle.meaning.specs.declared.refusal.Refusal.TheVariants as refusal
use Rattle.meaning.specs.declared.refusal.Site.{Site}
use Rattle.meaning.specs.declared.refusal.Site.TheVariants as site

abbrev pub number_at : ℕ → ℕ → Numbers
number_at n rule = record { number = n; rule = rule; fact = 0; working = 0; cause = 0 }

abbrev pub plain_number : ℕ → Numbers
plain_number n = number_at n 0

abbrev pub rule_of_site : Site → ℕ
rule_of_site site.HandIn = 0
rule_of_site (site.Rule n) = n

abbrev pub refusal_numbers : Refusal → Numbers
refusal_numbers refusal.Failed = plain_number 1
refusal_numbers refusal.OutOfRange = plain_number 5
refusal_numbers refusal.NotDeclared = plain_number 7
refusal_numbers refusal.UnusedFilled = plain_number 8
refusal_numbers refusal.NotAValue = plain_number 12
refusal_numbers (refusal.Body r f) =
    record { number = 13; rule = r; fact = f.fact; working = f.working; cause = cause_number f.cause }
refusal_numbers (refusal.NoRow s) = number_at 14 (rule_of_site s)
refusal_numbers (refusal.RollFull s) = number_at 15 (rule_of_site s)
