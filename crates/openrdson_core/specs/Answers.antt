-- What a call answers, its refusal by its number.
use Rattle.std.specs.Prelude.{Result, Ok, Err}
use Rattle.lists.specs.Answer.{Answer, refused, given}
use Rattle.openrdson_core.specs.Refusals.{refusal_number}
use Rattle.openrdson_core.specs.declared.refusals.Refusal.{Refusal}

abbrev pub answer : {A : Type 0} → Result A Refusal → Answer A
answer (Ok a) = given a
answer (Err why) = refused (refusal_number why)
