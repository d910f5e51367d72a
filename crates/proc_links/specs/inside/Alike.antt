-- Guards that are compared as the same are the same.
use Rattle.std.specs.Prelude.{◌≡◌, ℤ, true, refl}
use Rattle.std.proofs.Common.{ap}
use Rattle.std.proofs.lemmas.Bool.{and_from, and_parts}
use Rattle.std.proofs.lemmas.Cmp.{tied_itself}
use Rattle.std.proofs.lemmas.Slice.Eq.{bytes_eq-Decides}
use Rattle.std.specs.Cmp.{IsEquivalence, int_cmp_total}
use Rattle.std.specs.Ordering.{int_cmp, int_eq, is_eq}
use Rattle.std.specs.declared.cmp.Ordering.{Ordering}
use Rattle.std.specs.declared.cmp.Ordering.TheVariants.{Less, Equal, Greater}
use Rattle.core_tree.specs.inside.AlikeLaws.{Bears, equivalent}
use Rattle.term_core.specs.inside.OrderLaws.{same_integer}
use Rattle.world_model.specs.Guards.{Guard, Alias, Timer, NamedWatch, NamedAlias}
use Rattle.world_model.specs.Names.{same_name, same_pid}
use Rattle.world_model.specs.declared.alias.AliasEnd.{AliasEnd}
use Rattle.world_model.specs.declared.alias.AliasEnd.TheVariants.{ByUnalias, WithWatch, ByReply}
use Rattle.proc_links.specs.Guards.{same_end, same_guard}

equal_of : (o : Ordering) → is_eq o ≡ true → o ≡ Equal
equal_of Less e = cc
equal_of Equal e = refl
equal_of Greater e = cc

pub integer_told : (m n : ℤ) → int_eq m n ≡ true → m ≡ n
integer_told m n e = same_integer m n (equal_of (int_cmp m n) e)

pub end_told : (a b : AliasEnd) → same_end a b ≡ true → a ≡ b
end_told ByUnalias ByUnalias e = refl
end_told WithWatch WithWatch e = refl
end_told ByReply ByReply e = refl
end_told ByUnalias WithWatch e = cc
end_told ByUnalias ByReply e = cc
end_told WithWatch ByUnalias e = cc
end_told WithWatch ByReply e = cc
end_told ByReply ByUnalias e = cc
end_told ByReply WithWatch e = cc

end_itself : (a : AliasEnd) → same_end a a ≡ true
end_itself ByUnalias = refl
end_itself WithWatch = refl
end_itself ByReply = refl

pub guard_told : (a b : Guard) → same_guard a b ≡ true → a ≡ b
guard_told (Alias p a) (Alias q b) e =
    let s = and_parts (same_pid p q) (same_end a b) e in
    λ i. Alias ((bytes_eq-Decides p q).0 s.0 i) (end_told a b s.1 i)
guard_told (Timer p m) (Timer q n) e =
    let s = and_parts (same_pid p q) (int_eq m n) e in
    λ i. Timer ((bytes_eq-Decides p q).0 s.0 i) (integer_told m n s.1 i)
guard_told (NamedWatch n) (NamedWatch m) e = λ i. NamedWatch ((bytes_eq-Decides n m).0 e i)
guard_told (NamedAlias n p a) (NamedAlias m q b) e =
    let s = and_parts (same_name n m) _ e in
    let t = and_parts (same_pid p q) (same_end a b) s.1 in
    λ i. NamedAlias ((bytes_eq-Decides n m).0 s.0 i) ((bytes_eq-Decides p q).0 t.0 i) (end_told a b t.1 i)
guard_told (Alias p a) (Timer q n) e = cc
guard_told (Alias p a) (NamedWatch m) e = cc
guard_told (Alias p a) (NamedAlias m q b) e = cc
guard_told (Timer p m) (Alias q b) e = cc
guard_told (Timer p m) (NamedWatch n) e = cc
guard_told (Timer p m) (NamedAlias n q b) e = cc
guard_told (NamedWatch n) (Alias q b) e = cc
guard_told (NamedWatch n) (Timer q m) e = cc
guard_told (NamedWatch n) (NamedAlias m q b) e = cc
guard_told (NamedAlias n p a) (Alias q b) e = cc
guard_told (NamedAlias n p a) (Timer q m) e = cc
guard_told (NamedAlias n p a) (NamedWatch m) e = cc

guard_itself : (a : Guard) → same_guard a a ≡ true
guard_itself (Alias p a) = and_from _ _ ((bytes_eq-Decides p p).1 refl) (end_itself a)
guard_itself (Timer p m) = and_from _ _ ((bytes_eq-Decides p p).1 refl) (ap is_eq (tied_itself int_cmp_total m))
guard_itself (NamedWatch n) = (bytes_eq-Decides n n).1 refl
guard_itself (NamedAlias n p a) = and_from _ _ ((bytes_eq-Decides n n).1 refl) (and_from _ _ ((bytes_eq-Decides p p).1 refl) (end_itself a))

abbrev itself_of : Guard → Guard
itself_of x = x

guards_bear : Bears itself_of same_guard
guards_bear = record { tells = guard_told; itself = guard_itself; images = λ a b. refl }

pub guards_equal : IsEquivalence same_guard
guards_equal = equivalent guards_bear
