-- What is known only grows.
use Rattle.search_levels.specs.Known.{Grows}

module _ {K S : Type 0} {IsOf : K → S → Type 0} {Follows : K → K → Type 0} where
  pub stays : (known : K) → Grows IsOf Follows known known
  stays known = record { passes = λ later follows. follows; keeps = λ state is. is }

  pub grows_on : {before here now : K} → Grows IsOf Follows before here → Grows IsOf Follows here now → Grows IsOf Follows before now
  grows_on first more = record { passes = λ later follows. first.passes later (more.passes later follows); keeps = λ state is. more.keeps state (first.keeps state is) }
