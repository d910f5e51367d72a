-- The bindings of the code, as contracts see them.
use Rattle.std.specs.Prelude.{ℕ, List}
use Rattle.core_stack.specs.declared.bindings.Binding.{Binding}
use Rattle.term_core.specs.Meaning.{Meaning}
use Rattle.term_core.specs.Term.{meaning_of}

-- a variable's name and its value
abbrev pub binding_of : Binding → List ℕ × Meaning
binding_of b = (b.name.now, meaning_of b.value)
