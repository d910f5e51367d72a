-- What follows from the answer of a step.
use Rattle.std.proofs.Common.{◌≡◌, ℕ, Bool, true, false, cond, ◌⊎◌, inl, inr, Option, Some, None, Result, Ok, Err, refl, arith}
use Rattle.std.specs.Option.{option_map, ok_or}
use Rattle.core_tokens.specs.declared.lexer.trouble.TokenError.{TokenError}
use Rattle.core_tokens.specs.declared.lexer.trouble.TokenError.TheVariants as errors
use Rattle.core_tokens.specs.inside.Lexing.{◌>>=◌}

-- the value of a step that did not fail
pub bind_ok : {A B : Type 0} (r : Result A TokenError) (f : A → Result B TokenError) (y : B) → (r >>= f) ≡ Ok y → (x : A) × (r ≡ Ok x) × (f x ≡ Ok y)
bind_ok (Ok x) f y e = (x, refl, e)
bind_ok (Err d) f y e = absurd cc

abbrev pub done : {A : Type 0} → A → Result A TokenError
done x = Ok x

pub ok_is : {A : Type 0} (x y : A) → done x ≡ done y → x ≡ y
ok_is x y e = cc

abbrev pub present : {A : Type 0} → A → Option A
present x = Some x

pub some_is : {A : Type 0} (x y : A) → present x ≡ present y → x ≡ y
some_is x y e = cc

pub ok_or_ok : {A : Type 0} (o : Option A) (d : TokenError) (x : A) → ok_or o d ≡ Ok x → o ≡ Some x
ok_or_ok (Some y) d x e = cc
ok_or_ok None d x e = absurd cc

pub map_some : {A B : Type 0} (f : A → B) (o : Option A) (y : B) → option_map f o ≡ Some y → (x : A) × (o ≡ Some x) × (f x ≡ y)
map_some f (Some x) y e = (x, refl, some_is (f x) y e)
map_some f None y e = absurd cc

-- which way a test went
pub chosen : {A : Type 0} (b : Bool) (x y z : A) → cond b x y ≡ z → ((b ≡ true) × (x ≡ z)) ⊎ ((b ≡ false) × (y ≡ z))
chosen true x y z e = inl (refl, e)
chosen false x y z e = inr (refl, e)

-- a test that let a value through
pub guard_some : {A : Type 0} (b : Bool) (x y : A) → cond b (present x) None ≡ present y → (b ≡ true) × (x ≡ y)
guard_some true x y e = (refl, some_is x y e)
guard_some false x y e = absurd cc

pub guard_ok : {A : Type 0} (b : Bool) (d : TokenError) (x y : A) → cond b (done x) (Err d) ≡ done y → (b ≡ true) × (x ≡ y)
guard_ok true d x y e = (refl, ok_is x y e)
guard_ok false d x y e = absurd cc

-- a value is there or not
pub cases_Option : {A : Type 0} (o : Option A) → ((x : A) × (o ≡ Some x)) ⊎ (o ≡ None)
cases_Option (Some x) = inl (x, refl)
cases_Option None = inr refl

abbrev pub kind_of : TokenError → ℕ
kind_of errors.Memory = 0
kind_of errors.NoToken = 1
kind_of errors.OutOfRange = 2

abbrev pub failed : {A : Type 0} → TokenError → Result A TokenError
failed e = Err e

pub error_is : {A : Type 0} (d e : TokenError) → failed {A = A} d ≡ failed e → d ≡ e
error_is d e h = cc

-- two numbers that differ
pub apart : (m n : ℕ) → m ≡ n → m ≡ 2 → n ≡ 1 → ⊥
apart m n e two one = omega arith
