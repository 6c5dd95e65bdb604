-- Searching a short list of places.
use Rattle.std.specs.Prelude.{Bool, ◌&&◌, ℕ, leb, ltb}

-- place q is one of those from p on and before e
abbrev pub between : ℕ → ℕ → ℕ → Bool
between p e q = leb p q && ltb q e
