-- The hash of a name. Document 01, "Token walk": "hash is h·65599 + unit modulo 2^32 from 0, low 16 bits".
use Rattle.std.specs.Prelude.{ℕ, ◌+◌, ◌*◌, ◌%◌, ◌^◌, List, [], ◌∷◌}

-- "h·65599 + unit modulo 2^32"
abbrev pub mixed : ℕ → ℕ → ℕ
mixed h unit = (h * 65599 + unit) % 2 ^ 32

unfoldable pub hash_from : ℕ → List ℕ → ℕ
hash_from h [] = h
hash_from h (u ∷ us) = hash_from (mixed h u) us

-- "from 0, low 16 bits"
abbrev pub hash_of : List ℕ → ℕ
hash_of us = hash_from 0 us % 2 ^ 16
