-- What only the private functions of this crate cite.
use Rattle.std.specs.Prelude.{Bool, ℕ, ◌*◌}
use Rattle.cursor.specs.declared.View.{View}

-- the view of n units
abbrev pub view_at : ℕ → ℕ → Bool → View
view_at at n sound = record { part = record { start = at; len = 2 * n }; sound = sound }
