-- Ear clipping (Meisters), over any test of what an ear is: `ear w i` says whether the vertex at place i of what remains, w, is an ear.
use Rattle.std.specs.Prelude.{ℕ, zero, suc, ◌+◌, ◌-◌, Bool, List, [], ◌∷◌, ◌++◌, length, get_or, take, drop}
use Rattle.std.specs.Prelude.{Option, Some, None}
use Rattle.lists.specs.Answer.{Answer, refused, given, map_answer}
use Rattle.lists.specs.Lists.{first, next_of, prev_of}
use Rattle.meshing.specs.Triangles.{Triangle, tri}

-- the vertex at place i of what remains; the first and the last are neighbours
abbrev pub here : List ℕ → ℕ → ℕ
here w i = get_or w i 0

-- the vertex before it
abbrev pub before : List ℕ → ℕ → ℕ
before w i = here w (prev_of (length w) i)

-- the vertex after it
abbrev pub after : List ℕ → ℕ → ℕ
after w i = here w (next_of (length w) i)

-- the three of them as a triangle
abbrev pub triangle_at : List ℕ → ℕ → Triangle
triangle_at w i = tri (before w i) (here w i) (after w i)

-- what remains without the vertex at place i
abbrev pub without : List ℕ → ℕ → List ℕ
without w i = take i w ++ drop (i + 1) w

-- the ear's triangle, then those of what remains; with no ear, clipping is refused with 4
abbrev pub cut_at : (List ℕ → Answer (List Triangle)) → List ℕ → Option ℕ → Answer (List Triangle)
cut_at rest w None = refused 4
cut_at rest w (Some i) = map_answer (λ ts. triangle_at w i ∷ ts) (rest (without w i))

-- k first ears are cut, one after the other; the three vertices that remain are taken untested, in their order
abbrev pub cutting : (List ℕ → ℕ → Bool) → ℕ → List ℕ → Answer (List Triangle)
cutting ear zero w = given (tri (here w 0) (here w 1) (here w 2) ∷ [])
cutting ear (suc k) w = cut_at (cutting ear k) w (first (ear w) (length w) 0)

-- ears are cut while more than three vertices remain
abbrev pub clip : (List ℕ → ℕ → Bool) → List ℕ → Answer (List Triangle)
clip ear w = cutting ear (length w - 3) w
