-- A name's length and a polygon's solid, from what a program finds and lends. Assumes nothing.
use Rattle.std.proofs.Common.{◌≡◌, ℕ, ◌+◌, ◌-◌, eqb, leb, List, length, take, drop, refl, sym, ap, ◌∙◌}
use Rattle.std.specs.Prelude.{Float, Option, Some, unwrap_or}
use Rattle.lists.specs.Answer.{Answer, given}
use Rattle.lists.specs.Lists.{part, first}
use Rattle.lists.proofs.Answers.{passed, given_same}
use Rattle.lists.proofs.Parts.{part_lent}
use Rattle.openrdson_core.specs.Bytes.{byte_at, name_length}
use Rattle.openrdson_core.specs.Points.{ring_fault, of_ring}
use Rattle.openrdson_core.specs.declared.solids.Solid.{Solid}
use Rattle.geometry.specs.Extrude.{solid_of}
use Rattle.geometry.specs.Polygons.{part_fault, part_solid}

-- the length of a name, by where the first zero is
pub name_length_lem : (s : List ℕ) (n : ℕ) → first (λ i. eqb (byte_at s i) 0) (length s) 0 ≡ Some n → n ≡ name_length s
unfolding name_length
name_length_lem s n e = sym (ap (λ (o : Option ℕ). unwrap_or o (length s)) e)

-- of a part that is not refused, the solid that its lent lists have
module _ (xs ys : List Float) (start count : ℕ) where
  abbrev lent_xs : List Float
  lent_xs = take (start + count - start) (drop start xs)

  abbrev lent_ys : List Float
  lent_ys = take (start + count - start) (drop start ys)

  module _ (fine : part_fault xs ys start count ≡ given tt) where
    no_fault : ring_fault lent_xs lent_ys ≡ given tt
    unfolding part_fault
    no_fault =
        rw (part_lent xs start count, part_lent ys start count)
        (passed (leb (start + count) (length xs)) 15 (ring_fault (part start count xs) (part start count ys)) fine).1

    pub part_solid_lem : (z0 z1 : Float) {s : Solid} → given s ≡ of_ring lent_xs lent_ys (solid_of lent_xs lent_ys z0 z1 start count) → s ≡ part_solid xs ys start count z0 z1
    unfolding part_solid
    part_solid_lem z0 z1 e =
        given_same (e ∙ rw (no_fault) refl)
        ∙ ap (λ (l : List Float). solid_of l lent_ys z0 z1 start count) (part_lent xs start count)
        ∙ ap (λ (l : List Float). solid_of (part start count xs) l z0 z1 start count) (part_lent ys start count)
