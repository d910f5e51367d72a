-- How long a text may be.
use Rattle.std.specs.Prelude.{ℕ}

-- the most bytes that a module may have
abbrev pub text_limit : ℕ
text_limit = 1048576
