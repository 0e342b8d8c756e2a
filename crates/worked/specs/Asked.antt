-- What the checks ask of an answer.
use Rattle.std.specs.Prelude.{ℕ, Bool, false, ◌&&◌, List, eqb, length, Option, Some, None}
use Rattle.lists.specs.Answer.{Answer, refused, given}
use Rattle.openrdson_core.specs.Tech.{ViaNames}
use Rattle.openrdson_core.specs.Bytes.{same}

-- whether a name is found, and is this one
abbrev pub is_name : Answer (Option (List ℕ)) → List ℕ → Bool
is_name (refused n) name = false
is_name (given None) name = false
is_name (given (Some p)) name = same p name

-- whether a name is found, and starts at this place of its block
abbrev pub is_start : Answer (Option (List ℕ)) → Option ℕ → ℕ → Bool
is_start (refused n) at start = false
is_start (given None) at start = false
is_start (given (Some p)) None start = false
is_start (given (Some p)) (Some k) start = eqb k start

-- whether a via's layer has this name; an empty name stands for an absent layer
abbrev pub is_end : Option (List ℕ) → List ℕ → Bool
is_end None name = eqb (length name) 0
is_end (Some p) name = same p name

-- whether a via is found, and has these layers
abbrev pub is_via : Answer (Option ViaNames) → List ℕ → List ℕ → Bool
is_via (refused n) bottom top = false
is_via (given None) bottom top = false
is_via (given (Some v)) bottom top = is_end v.bottom bottom && is_end v.top top
