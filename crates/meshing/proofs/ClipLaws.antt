-- Clipping, turn by turn: a triangle written, a place taken out of the walk, and the loop over the ears. Assumes nothing.
use mathlib.Core.Path.{◌≡◌, refl, sym, ap, ◌∙◌}
use mathlib.Core.Bool.{Bool}
use mathlib.Core.List.{List, [], ◌∷◌, ◌++◌, append_assoc}
use Rattle.std.specs.Prelude.{Some, None}
use Prim.Native.Nat.{ℕ, suc, ◌+◌, ◌-◌, ◌*◌, ◌≤◌, ◌<◌}
use native.Mathlib.Nat.{add-zero}
use native.Mathlib.Omega.{arith}
use lib.ListN.{length, get_or, take, drop, length-append, length-drop}
use Rattle.std.specs.Prelude.{Some, None}
use lib.Seq.{length-take-le, take_at, drop_at, append_snoc, get_or-drop}
use Rattle.std.specs.List.{copy_within}
use Rattle.lists.specs.Answer.{Answer, refused, given, map_answer}
use Rattle.lists.specs.Lists.{Below, first, next_of, prev_of, put}
use Rattle.lists.proofs.Fills.{put_length}
use Rattle.lists.proofs.Places.{below_take, below_drop, below_append}
use Rattle.lists.proofs.Parts.{rest_back_long, rest_back_later}
use Rattle.lists.proofs.Searches.{first_below}
use Rattle.meshing.specs.Triangles.{Triangle, tri, corners}
use Rattle.meshing.specs.Clipping.{triangle_at, without, cut_at, cutting, clip}
use Rattle.meshing.proofs.Clipped.{without_length}

-- ---- a place taken out of a walk

module _ (w : List ℕ) (i : ℕ) where
  -- the places before i move one up
  pub moved_up : i < length w → drop 1 (copy_within w 0 i 1) ≡ without w i
  moved_up h =
      let same : i - 0 ≡ i = omega arith in
      let next : 1 + i ≡ i + 1 = omega arith in
      ap (λ (k : ℕ). drop 1 (take 1 w ++ take k w ++ drop (1 + k) w)) same
      ∙ ap (drop 1) (append_assoc (take 1 w) (take i w) (drop (1 + i) w))
      ∙ drop_at (take 1 w) (take i w ++ drop (1 + i) w) 1 (length-take-le 1 w (omega arith))
      ∙ ap (λ (k : ℕ). take i w ++ drop k w) next

-- the triangle at place i, written by the neighbours' places p and q
pub cut_written : (w : List ℕ) (i p q : ℕ) → p ≡ prev_of (length w) i → q ≡ next_of (length w) i → (out : List ℕ) (t : ℕ) (now : List ℕ)
    → now ≡ put out t (get_or w p 0 ∷ get_or w i 0 ∷ get_or w q 0 ∷ []) → now ≡ put out t (corners (triangle_at w i ∷ []))
cut_written w i p q is-p is-q out t now e =
    e
    ∙ ap (λ (x : ℕ). put out t (get_or w x 0 ∷ get_or w i 0 ∷ get_or w q 0 ∷ [])) is-p
    ∙ ap (λ (x : ℕ). put out t (get_or w (prev_of (length w) i) 0 ∷ get_or w i 0 ∷ get_or w x 0 ∷ [])) is-q

-- ---- places stay below n

below_without : (n : ℕ) (w : List ℕ) (i : ℕ) → Below n w → Below n (without w i)
below_without n w i b = below_append n (take i w) (drop (i + 1) w) (below_take n w i b) (below_drop n w (i + 1) b)

-- ---- one step of clipping

corners_append : (s t : List Triangle) → corners (s ++ t) ≡ corners s ++ corners t
corners_append [] t = refl
corners_append (tri a b c ∷ s) t = ap (λ (l : List ℕ). a ∷ b ∷ c ∷ l) (corners_append s t)

after_none : (a : Answer (List Triangle)) → a ≡ map_answer (λ ts. [] ++ ts) a
after_none (refused n) = refl
after_none (given ts) = refl

after_one : (done : List Triangle) (t : Triangle) (a : Answer (List Triangle)) → map_answer (λ ts. done ++ ts) (map_answer (λ ts. t ∷ ts) a) ≡ map_answer (λ ts. (done ++ t ∷ []) ++ ts) a
after_one done t (refused n) = refl
after_one done t (given ts) = ap (λ (l : List Triangle). given l) (sym (append_snoc done t ts))

module _ (ear : List ℕ → ℕ → Bool) (w : List ℕ) where
  clip_last : length w ≡ 3 → clip ear w ≡ given (tri (get_or w 0 0) (get_or w 1 0) (get_or w 2 0) ∷ [])
  clip_last h =
      let e : length w - 3 ≡ 0 = omega arith in
      ap (λ (k : ℕ). cutting ear k w) e

  clip_more : 3 < length w → clip ear w ≡ cut_at (cutting ear (length w - 4)) w (first (ear w) (length w) 0)
  clip_more h =
      let e : length w - 3 ≡ suc (length w - 4) = omega arith in
      ap (λ (k : ℕ). cutting ear k w) e

  clip_stalls : 3 < length w → first (ear w) (length w) 0 ≡ None → clip ear w ≡ refused 4
  clip_stalls h f = clip_more h ∙ rw f

  clip_cuts : (i : ℕ) → 3 < length w → i < length w → first (ear w) (length w) 0 ≡ Some i → clip ear w ≡ map_answer (λ ts. triangle_at w i ∷ ts) (clip ear (without w i))
  clip_cuts i h l f =
      let e : length w - 4 ≡ length (without w i) - 3 = omega (arith, without_length w i l) in
      clip_more h ∙ ap (cut_at (cutting ear (length w - 4)) w) f ∙ ap (λ (k : ℕ). map_answer (λ ts. triangle_at w i ∷ ts) (cutting ear k (without w i))) e

-- ---- the loop: the walk v was handed in, w is the list now, and `at` ears are cut

pub record Run (ear : List ℕ → ℕ → Bool) (n : ℕ) (v w out : List ℕ) (at : ℕ) : Type 0 where
  pub place : at + 3 ≤ length v
  pub same : length w ≡ length v
  pub room : (length v - 2) * 3 ≤ length out
  pub below : Below n (drop at w)
  -- the triangles cut
  pub done : List Triangle
  pub written : take (at * 3) out ≡ corners done
  pub run : clip ear v ≡ map_answer (λ ts. done ++ ts) (clip ear (drop at w))

module _ (ear : List ℕ → ℕ → Bool) (n : ℕ) (v : List ℕ) where
  pub run_start : (out : List ℕ) → 3 ≤ length v → Below n v → (length v - 2) * 3 ≤ length out → Run ear n v v out 0
  run_start out h b r = record {
    place = h;
    same = refl;
    room = r;
    below = b;
    done = [];
    written = refl;
    run = after_none (clip ear v);
  }

  module _ (w out : List ℕ) (at : ℕ) (k : Run ear n v w out at) where
    -- three more corners are written
    more_written : (t : Triangle) (out' : List ℕ) → out' ≡ put out (at * 3) (corners (t ∷ [])) → take ((at + 1) * 3) out' ≡ corners (k.done ++ t ∷ [])
    unfolding put
    more_written (tri a b c) out' o =
        let n : length (take (at * 3) out ++ a ∷ b ∷ c ∷ []) ≡ (at + 1) * 3 =
        omega (arith, length-append (take (at * 3) out) (a ∷ b ∷ c ∷ []), length-take-le (at * 3) out (omega (arith, k.room, k.place))) in
        ap (take ((at + 1) * 3)) o
        ∙ take_at (take (at * 3) out ++ a ∷ b ∷ c ∷ []) (drop (at * 3 + 3) out) ((at + 1) * 3) n
        ∙ ap (λ (l : List ℕ). l ++ a ∷ b ∷ c ∷ []) k.written
        ∙ sym (corners_append k.done (tri a b c ∷ []))

    written_long : (t : Triangle) (out' : List ℕ) → out' ≡ put out (at * 3) (corners (t ∷ [])) → length out' ≡ length out
    written_long (tri a b c) out' o = ap length o ∙ put_length out (at * 3) (a ∷ b ∷ c ∷ []) (omega (arith, k.room, k.place))

    module _ (rest : List ℕ) (all : rest ≡ drop at w) where
      rest_long : length rest + at ≡ length v
      rest_long = omega (arith, ap length all, length-drop at w, k.same, k.place)

      pub run_below : Below n rest
      run_below = rw all k.below

      -- the place found is one of what remains
      pub run_at : (i : ℕ) → Some i ≡ first (ear rest) (length rest) 0 → i < length rest
      run_at i f = omega (arith, first_below (ear rest) (length rest) 0 i (sym f))

      run_rest : clip ear v ≡ map_answer (λ ts. k.done ++ ts) (clip ear rest)
      run_rest = rw all k.run

      -- an ear is cut
      pub run_cut : (i : ℕ) (new out' : List ℕ) → at + 3 < length v → Some i ≡ first (ear rest) (length rest) 0
          → drop 1 new ≡ without rest i → length new ≡ length rest → out' ≡ put out (at * 3) (corners (triangle_at rest i ∷ []))
          → Run ear n v (take at w ++ (new ++ drop (length w - at) (drop at w))) out' (at + 1)
      run_cut i new out' h f is long o =
          let t : Triangle = triangle_at rest i in
          let w' : List ℕ = take at w ++ (new ++ drop (length w - at) (drop at w)) in
          let in-w : at ≤ length w = omega (arith, k.same, k.place) in
          let later : drop (at + 1) w' ≡ without rest i = rest_back_later w at new in-w (long ∙ ap length all) ∙ is in
          record {
            place = omega arith;
            same = rest_back_long w at new in-w (long ∙ ap length all) ∙ k.same;
            room = omega (arith, k.room, written_long t out' o);
            below = rw later (below_without n rest i run_below);
            done = k.done ++ t ∷ [];
            written = more_written t out' o;
            run = run_rest
                ∙ ap (map_answer (λ ts. k.done ++ ts)) (clip_cuts ear rest i (omega (arith, rest_long)) (run_at i f) (sym f))
                ∙ after_one k.done t (clip ear (without rest i))
                ∙ ap (λ (l : List ℕ). map_answer (λ ts. (k.done ++ t ∷ []) ++ ts) (clip ear l)) (sym later);
          }

      -- there is no ear
      pub run_stalls : at + 3 < length v → None ≡ first (ear rest) (length rest) 0 → refused 4 ≡ map_answer corners (clip ear v)
      run_stalls h f = sym (ap (map_answer corners) (run_rest ∙ ap (map_answer (λ ts. k.done ++ ts)) (clip_stalls ear rest (omega (arith, rest_long)) (sym f))))

    -- three vertices remain
    pub run_ends : (out' : List ℕ) → length v ≤ at + 3 → out' ≡ put out (at * 3) (get_or w at 0 ∷ get_or w (at + 1) 0 ∷ get_or w (at + 2) 0 ∷ [])
        → given (take ((length v - 2) * 3) out') ≡ map_answer corners (clip ear v)
    run_ends out' h o =
        let last : Triangle = tri (get_or w at 0) (get_or w (at + 1) 0) (get_or w (at + 2) 0) in
        let end : length v - 2 ≡ at + 1 = omega (arith, k.place) in
        let tail : clip ear (drop at w) ≡ given (last ∷ []) =
        clip_last ear (drop at w) (omega (arith, length-drop at w, k.same, k.place)) ∙ rw (get_or-drop at w 0 0, get_or-drop at w 1 0, get_or-drop at w 2 0, add-zero) in
        let all : clip ear v ≡ given (k.done ++ last ∷ []) = k.run ∙ ap (map_answer (λ ts. k.done ++ ts)) tail in
        ap (λ (m : ℕ). given (take (m * 3) out')) end ∙ ap (λ (l : List ℕ). given l) (more_written last out' o) ∙ sym (ap (map_answer corners) all)
