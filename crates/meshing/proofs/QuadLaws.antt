-- A loop over pairs of edges, or over bands, that tallies or writes quads: what it has done so far. Assumes nothing.
use mathlib.Core.Path.{◌≡◌, refl, sym, ap, ◌∙◌}
use mathlib.Core.Bool.{Bool, true, false, cond, ◌&&◌, and-true, and_assoc}
use mathlib.Core.List.{List, [], ◌∷◌, ◌++◌, append_assoc, append-nil}
use Prim.Native.Nat.{ℕ, zero, suc, ◌+◌, ◌*◌, ◌/◌, ◌<◌, ◌≤◌}
use native.Mathlib.Nat.{le_of_suc-le-suc}
use native.Mathlib.Numerals.{add-one, add-two}
use native.Mathlib.Omega.{arith}
use lib.ListN.{length, get_or, drop, length-append}
use lib.Seq.{drop-cons}
use lib.Ieee.{Float}
use Rattle.std.specs.Simd.{first_chunks}
use Rattle.lists.specs.Lists.{put, joined, all_of}
use Rattle.lists.proofs.Fills.{put_none, put_length}
use Rattle.lists.proofs.Joined.{joined_lengths, joined_length, joined_one, put_joined}
use Rattle.lists.proofs.Passing.{all_of_append}
use Rattle.meshing.specs.declared.quads.Quad.{Quad}
use Rattle.meshing.specs.declared.quads.Tally.{Tally}
use Rattle.meshing.specs.declared.levels.Band.{Band}
use Rattle.meshing.specs.Quads.{is_flat, quad_in, quad_of, quads_between}
use Rattle.meshing.specs.Scanline.{quad_xs, quad_ys, Tallied}
use Rattle.meshing.proofs.Chunks.{chunk_at}

-- ---- the pair of edges at places i and i + 1: its quad is skipped, or is the next; or there is no such pair

module _ (xs ys : List Float) (b : Band) (es : List ℕ) (i : ℕ) where
  pair : i + 1 < length es → {q : Quad} {f : Bool} → q ≡ quad_of xs ys b (get_or es i 0) (get_or es (i + 1) 0) → is_flat q ≡ f
      → quads_between xs ys b (drop i es) ≡ cond f (quads_between xs ys b (drop (i + 2) es)) (q ∷ quads_between xs ys b (drop (i + 2) es))
  unfolding quads_between
  pair h {q} {f} e g =
      let second : suc i < length es = omega arith in
      let first : i < length es = omega arith in
      rw (← g, e, add-one i, add-two i, drop-cons es i 0 first, drop-cons es (suc i) 0 second)

  pub pair_flat : i + 1 < length es → {q : Quad} → q ≡ quad_of xs ys b (get_or es i 0) (get_or es (i + 1) 0) → is_flat q ≡ true
      → quads_between xs ys b (drop i es) ≡ quads_between xs ys b (drop (i + 2) es)
  pair_flat h e g = pair h e g

  pub pair_kept : i + 1 < length es → {q : Quad} → q ≡ quad_of xs ys b (get_or es i 0) (get_or es (i + 1) 0) → is_flat q ≡ false
      → quads_between xs ys b (drop i es) ≡ (q ∷ []) ++ quads_between xs ys b (drop (i + 2) es)
  pair_kept h e g = pair h e g

  pub pair_last : length es ≤ i + 1 → quads_between xs ys b (drop i es) ≡ []
  unfolding quads_between
  pair_last h = go es i (omega arith)
    where
      go : (l : List ℕ) (j : ℕ) → length l ≤ suc j → quads_between xs ys b (drop j l) ≡ []
      go [] zero h = refl
      go [] (suc j) h = refl
      go (x ∷ []) zero h = refl
      go (x ∷ (y ∷ l)) zero h = absurd (omega arith)
      go (x ∷ l) (suc j) h = go l j (le_of_suc-le-suc h)

-- The same of the edges read two at a time: their pair i.
module _ (n : ℕ) (es : List ℕ) {pairs : List (List ℕ)} (are : pairs ≡ first_chunks 2 (length es / 2) es) (i : ℕ) (h : i < length es / 2) where
  first_is : get_or (get_or pairs i []) 0 0 ≡ get_or es (i * 2) 0
  first_is =
      let e : i * 2 + 0 ≡ i * 2 = omega arith in
      ap (λ (ps : List (List ℕ)). get_or (get_or ps i []) 0 0) are ∙ chunk_at 2 (length es / 2) es i 0 h (omega arith) ∙ ap (λ (k : ℕ). get_or es k 0) e

  second_is : get_or (get_or pairs i []) 1 0 ≡ get_or es (i * 2 + 1) 0
  second_is = ap (λ (ps : List (List ℕ)). get_or (get_or ps i []) 1 0) are ∙ chunk_at 2 (length es / 2) es i 1 h (omega arith)

  -- both are below n if all edges are
  pub pair_below : ((j : ℕ) → j < length es → get_or es j 0 < n) → (get_or (get_or pairs i []) 0 0 < n) × (get_or (get_or pairs i []) 1 0 < n)
  pair_below b = (omega (arith, first_is, b (i * 2) (omega arith)), omega (arith, second_is, b (i * 2 + 1) (omega arith)))

  module _ (xs ys : List Float) (b : Band) {q : Quad} (is : q ≡ quad_of xs ys b (get_or (get_or pairs i []) 0 0) (get_or (get_or pairs i []) 1 0)) where
    next : i * 2 + 2 ≡ (i + 1) * 2
    next = omega arith

    pub chunk_flat : is_flat q ≡ true → quads_between xs ys b (drop (i * 2) es) ≡ quads_between xs ys b (drop ((i + 1) * 2) es)
    chunk_flat f = pair_flat xs ys b es (i * 2) (omega arith) (rw (← first_is, ← second_is) is) f ∙ ap (λ (k : ℕ). quads_between xs ys b (drop k es)) next

    pub chunk_kept : is_flat q ≡ false → quads_between xs ys b (drop (i * 2) es) ≡ (q ∷ []) ++ quads_between xs ys b (drop ((i + 1) * 2) es)
    chunk_kept f = pair_kept xs ys b es (i * 2) (omega arith) (rw (← first_is, ← second_is) is) f ∙ ap (λ (k : ℕ). (q ∷ []) ++ quads_between xs ys b (drop k es)) next

-- there are no more of them than edges
pub pairs_most : (xs ys : List Float) (b : Band) (es : List ℕ) → length (quads_between xs ys b es) ≤ length es
unfolding quads_between
pairs_most xs ys b [] = omega arith
pairs_most xs ys b (l ∷ []) = omega arith
pairs_most xs ys b (l ∷ (r ∷ es)) = at (is_flat (quad_of xs ys b l r)) (pairs_most xs ys b es)
  where
    at : (f : Bool) → length (quads_between xs ys b es) ≤ length es → length (cond f (quads_between xs ys b es) (quad_of xs ys b l r ∷ quads_between xs ys b es)) ≤ suc (suc (length es))
    at true h = omega arith
    at false h = omega arith

-- ---- of the quads all, those before rest are tallied

tallied_none : (t : Tally) → Tallied t [] t
tallied_none t = record { quads = omega arith; inside = sym (and-true t.inside) }

tallied_more : {t s r : Tally} (a b : List Quad) → Tallied t a s → Tallied s b r → Tallied t (a ++ b) r
tallied_more {t} {s} {r} a b p q =
    record {
      quads = omega (arith, p.quads, q.quads, length-append a b);
      inside =
          q.inside ∙ ap (λ (k : Bool). k && all_of quad_in b) p.inside ∙ and_assoc t.inside (all_of quad_in a) (all_of quad_in b)
          ∙ ap (λ (k : Bool). t.inside && k) (sym (all_of_append quad_in a b));
    }

pub record Counted (all rest : List Quad) (t s : Tally) : Type 0 where
  pub done : List Quad
  pub is : all ≡ done ++ rest
  pub tally : Tallied t done s

pub count_start : {all rest : List Quad} (t : Tally) → all ≡ rest → Counted all rest t t
count_start t e = record { done = []; is = e; tally = tallied_none t }

module _ {all rest : List Quad} {t s : Tally} (c : Counted all rest t s) where
  pub count_skip : {less : List Quad} → rest ≡ less → Counted all less t s
  count_skip e = record { done = c.done; is = c.is ∙ ap (λ (l : List Quad). c.done ++ l) e; tally = c.tally }

  pub count_more : (new : List Quad) {less : List Quad} {r : Tally} → rest ≡ new ++ less → Tallied s new r → Counted all less t r
  count_more new {less} e g =
      record {
        done = c.done ++ new;
        is = c.is ∙ ap (λ (l : List Quad). c.done ++ l) e ∙ sym (append_assoc c.done new less);
        tally = tallied_more c.done new c.tally g;
      }

  pub count_end : rest ≡ [] → Tallied t all s
  count_end e = rw (c.is ∙ ap (λ (l : List Quad). c.done ++ l) e ∙ append-nil c.done) c.tally

-- ---- of the quads all, the nodes' x and y of those before rest are written from place p on, and `at` is where to go on

pub record Sofar (all rest : List Quad) (p at : ℕ) (nx₀ ny₀ nx ny : List Float) : Type 0 where
  pub done : List Quad
  pub is : all ≡ done ++ rest
  pub here : at ≡ p + length (joined quad_xs done)
  pub xs : nx ≡ put nx₀ p (joined quad_xs done)
  pub ys : ny ≡ put ny₀ p (joined quad_ys done)
  pub long_xs : length nx ≡ length nx₀
  pub long_ys : length ny ≡ length ny₀

pub sofar_start : {all rest : List Quad} (p : ℕ) (nx ny : List Float) → all ≡ rest → Sofar all rest p p nx ny nx ny
sofar_start p nx ny e =
    record {
      done = [];
      is = e;
      here = omega arith;
      xs = sym (put_none nx p);
      ys = sym (put_none ny p);
      long_xs = refl;
      long_ys = refl;
    }

pub eight_xs : (qs : List Quad) → length (joined quad_xs qs) ≡ length qs * 8
eight_xs qs = joined_length quad_xs 8 (λ q. refl) qs

pub eight_ys : (qs : List Quad) → length (joined quad_ys qs) ≡ length qs * 8
eight_ys qs = joined_length quad_ys 8 (λ q. refl) qs

module _ {all rest : List Quad} {p at : ℕ} {nx₀ ny₀ nx ny : List Float} (s : Sofar all rest p at nx₀ ny₀ nx ny) where
  pub sofar_skip : {less : List Quad} → rest ≡ less → Sofar all less p at nx₀ ny₀ nx ny
  sofar_skip e =
      record {
        done = s.done;
        is = s.is ∙ ap (λ (l : List Quad). s.done ++ l) e;
        here = s.here;
        xs = s.xs;
        ys = s.ys;
        long_xs = s.long_xs;
        long_ys = s.long_ys;
      }

  -- room for the next of them
  pub sofar_room : (new less : List Quad) → rest ≡ new ++ less → p + length (joined quad_xs all) ≤ length nx₀
      → at + length (joined quad_xs new) ≤ length nx₀
  sofar_room new less e h =
      omega (
        arith,
        s.here,
        ap (λ (l : List Quad). length (joined quad_xs l)) s.is,
        joined_lengths quad_xs s.done rest,
        ap (λ (l : List Quad). length (joined quad_xs l)) e,
        joined_lengths quad_xs new less,
      )

  -- these are written
  pub sofar_more : (new : List Quad) {less : List Quad} {nx' ny' : List Float} {at' : ℕ}
      → rest ≡ new ++ less → p + length (joined quad_xs all) ≤ length nx₀ → length ny₀ ≡ length nx₀
      → nx' ≡ put nx at (joined quad_xs new) → ny' ≡ put ny at (joined quad_ys new) → at' ≡ at + length (joined quad_xs new)
      → Sofar all less p at' nx₀ ny₀ nx' ny'
  sofar_more new {less} {nx'} {ny'} {at'} e h same x y g =
      let room = sofar_room new less e h in
      let lx = eight_xs new in
      let ly = eight_ys new in
      record {
        done = s.done ++ new;
        is = s.is ∙ ap (λ (l : List Quad). s.done ++ l) e ∙ sym (append_assoc s.done new less);
        here = omega (arith, g, s.here, joined_lengths quad_xs s.done new);
        xs = put_joined quad_xs nx₀ p s.done new s.xs x s.here room;
        ys = put_joined quad_ys ny₀ p s.done new s.ys y (omega (arith, s.here, eight_xs s.done, eight_ys s.done)) (omega (arith, room, lx, ly, same));
        long_xs = ap length x ∙ put_length nx at (joined quad_xs new) (omega (arith, room, s.long_xs)) ∙ s.long_xs;
        long_ys = ap length y ∙ put_length ny at (joined quad_ys new) (omega (arith, room, lx, ly, same, s.long_ys)) ∙ s.long_ys;
      }

  whole : rest ≡ [] → s.done ≡ all
  whole e = sym (s.is ∙ ap (λ (l : List Quad). s.done ++ l) e ∙ append-nil s.done)

  pub sofar_end : rest ≡ [] → (nx ≡ put nx₀ p (joined quad_xs all)) × (ny ≡ put ny₀ p (joined quad_ys all)) × (at ≡ p + length (joined quad_xs all))
  sofar_end e = (
    s.xs ∙ ap (λ (l : List Quad). put nx₀ p (joined quad_xs l)) (whole e),
    s.ys ∙ ap (λ (l : List Quad). put ny₀ p (joined quad_ys l)) (whole e),
    s.here ∙ ap (λ (l : List Quad). p + length (joined quad_xs l)) (whole e),
  )

  -- one quad: where the room is, and written
  pub sofar_room_one : (q : Quad) (less : List Quad) → rest ≡ (q ∷ []) ++ less → p + length (joined quad_xs all) ≤ length nx₀ → at + 8 ≤ length nx₀
  sofar_room_one q less e h = omega (arith, sofar_room (q ∷ []) less e h, eight_xs (q ∷ []))

  pub sofar_one : {q : Quad} {less : List Quad} {nx' ny' : List Float} {at' : ℕ}
      → rest ≡ (q ∷ []) ++ less → p + length (joined quad_xs all) ≤ length nx₀ → length ny₀ ≡ length nx₀
      → nx' ≡ put nx at (quad_xs q) → ny' ≡ put ny at (quad_ys q) → at' ≡ at + 8 → Sofar all less p at' nx₀ ny₀ nx' ny'
  sofar_one {q} e h same x y g =
      sofar_more
      (q ∷ [])
      e
      h
      same
      (x ∙ ap (put nx at) (sym (joined_one quad_xs q)))
      (y ∙ ap (put ny at) (sym (joined_one quad_ys q)))
      (omega (arith, g, eight_xs (q ∷ [])))
