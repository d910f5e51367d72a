-- The calls that a process answers by itself: their names and the numbers of their arguments (Erlang reference manual, modules erlang and lists).
use Rattle.std.specs.Prelude.{ℕ, Bool, true, false, Option, List, [], ◌∷◌, codes}
use Rattle.core_calls.specs.Calls.{Signature, process_call, has_signature, first_with}
use Rattle.core_calls.specs.declared.pure.PureCall.{PureCall}
use Rattle.core_calls.specs.declared.pure.PureCall.TheVariants as calls

abbrev pub list_call : List ℕ → ℕ → Signature
list_call f n = record { module_name = codes "lists"; function_name = f; arity = n }

-- the names and the arity of each call
abbrev pub pure_signature : PureCall → Signature
pure_signature calls.Add = process_call (codes "+") 2
pure_signature calls.Subtract = process_call (codes "-") 2
pure_signature calls.Multiply = process_call (codes "*") 2
pure_signature calls.Keep = process_call (codes "+") 1
pure_signature calls.Negate = process_call (codes "-") 1
pure_signature calls.Divide = process_call (codes "div") 2
pure_signature calls.Remainder = process_call (codes "rem") 2
pure_signature calls.Absolute = process_call (codes "abs") 1
pure_signature calls.BitAnd = process_call (codes "band") 2
pure_signature calls.BitOr = process_call (codes "bor") 2
pure_signature calls.BitXor = process_call (codes "bxor") 2
pure_signature calls.BitNot = process_call (codes "bnot") 1
pure_signature calls.Equal = process_call (codes "==") 2
pure_signature calls.NotEqual = process_call (codes "/=") 2
pure_signature calls.Same = process_call (codes "=:=") 2
pure_signature calls.NotSame = process_call (codes "=/=") 2
pure_signature calls.Less = process_call (codes "<") 2
pure_signature calls.AtMost = process_call (codes "=<") 2
pure_signature calls.Greater = process_call (codes ">") 2
pure_signature calls.AtLeast = process_call (codes ">=") 2
pure_signature calls.And = process_call (codes "and") 2
pure_signature calls.Or = process_call (codes "or") 2
pure_signature calls.Xor = process_call (codes "xor") 2
pure_signature calls.Not = process_call (codes "not") 1
pure_signature calls.IsInteger = process_call (codes "is_integer") 1
pure_signature calls.IsNumber = process_call (codes "is_number") 1
pure_signature calls.IsAtom = process_call (codes "is_atom") 1
pure_signature calls.IsBoolean = process_call (codes "is_boolean") 1
pure_signature calls.IsTuple = process_call (codes "is_tuple") 1
pure_signature calls.IsList = process_call (codes "is_list") 1
pure_signature calls.IsPid = process_call (codes "is_pid") 1
pure_signature calls.IsReference = process_call (codes "is_reference") 1
pure_signature calls.IsFloat = process_call (codes "is_float") 1
pure_signature calls.IsBinary = process_call (codes "is_binary") 1
pure_signature calls.IsRecord = process_call (codes "is_record") 3
pure_signature calls.Element = process_call (codes "element") 2
pure_signature calls.SetElement = process_call (codes "setelement") 3
pure_signature calls.TupleSize = process_call (codes "tuple_size") 1
pure_signature calls.Head = process_call (codes "hd") 1
pure_signature calls.Tail = process_call (codes "tl") 1
pure_signature calls.Length = process_call (codes "length") 1
pure_signature calls.Append = process_call (codes "++") 2
pure_signature calls.Without = process_call (codes "--") 2
pure_signature calls.TupleToList = process_call (codes "tuple_to_list") 1
pure_signature calls.ListToTuple = process_call (codes "list_to_tuple") 1
pure_signature calls.OwnPid = process_call (codes "self") 0
pure_signature calls.Put = process_call (codes "put") 2
pure_signature calls.Get = process_call (codes "get") 1
pure_signature calls.GetAll = process_call (codes "get") 0
pure_signature calls.GetKeys = process_call (codes "get_keys") 0
pure_signature calls.GetKeysOf = process_call (codes "get_keys") 1
pure_signature calls.Erase = process_call (codes "erase") 1
pure_signature calls.EraseAll = process_call (codes "erase") 0
pure_signature calls.Error = process_call (codes "error") 1
pure_signature calls.ErrorWith = process_call (codes "error") 2
pure_signature calls.Exit = process_call (codes "exit") 1
pure_signature calls.Throw = process_call (codes "throw") 1
pure_signature calls.ModuleInfo = process_call (codes "get_module_info") 1
pure_signature calls.ModuleInfoItem = process_call (codes "get_module_info") 2
pure_signature calls.Reverse = list_call (codes "reverse") 1
pure_signature calls.Member = list_call (codes "member") 2
pure_signature calls.AppendLists = list_call (codes "append") 2

-- all of the calls, each once
abbrev pub pure_calls : List PureCall
pure_calls = calls.Add ∷ calls.Subtract ∷ calls.Multiply ∷ calls.Keep ∷ calls.Negate ∷ calls.Divide ∷ calls.Remainder ∷ calls.Absolute ∷ calls.BitAnd ∷ calls.BitOr ∷ calls.BitXor ∷ calls.BitNot ∷ calls.Equal ∷ calls.NotEqual ∷ calls.Same ∷ calls.NotSame ∷ calls.Less ∷ calls.AtMost ∷ calls.Greater ∷ calls.AtLeast ∷ calls.And ∷ calls.Or ∷ calls.Xor ∷ calls.Not ∷ calls.IsInteger ∷ calls.IsNumber ∷ calls.IsAtom ∷ calls.IsBoolean ∷ calls.IsTuple ∷ calls.IsList ∷ calls.IsPid ∷ calls.IsReference ∷ calls.IsFloat ∷ calls.IsBinary ∷ calls.IsRecord ∷ calls.Element ∷ calls.SetElement ∷ calls.TupleSize ∷ calls.Head ∷ calls.Tail ∷ calls.Length ∷ calls.Append ∷ calls.Without ∷ calls.TupleToList ∷ calls.ListToTuple ∷ calls.OwnPid ∷ calls.Put ∷ calls.Get ∷ calls.GetAll ∷ calls.GetKeys ∷ calls.GetKeysOf ∷ calls.Erase ∷ calls.EraseAll ∷ calls.Error ∷ calls.ErrorWith ∷ calls.Exit ∷ calls.Throw ∷ calls.ModuleInfo ∷ calls.ModuleInfoItem ∷ calls.Reverse ∷ calls.Member ∷ calls.AppendLists ∷ []

-- the call of these names and so many arguments, if there is one
unfoldable pub pure_call_with : List ℕ → List ℕ → ℕ → Option PureCall
pure_call_with module_name function_name arity = first_with (λ kind. has_signature module_name function_name arity (pure_signature kind)) pure_calls

-- whether a call is one of the process dictionary, which no guard may make
abbrev pub is_of_dictionary : PureCall → Bool
is_of_dictionary calls.Put = true
is_of_dictionary calls.Get = true
is_of_dictionary calls.GetAll = true
is_of_dictionary calls.GetKeys = true
is_of_dictionary calls.GetKeysOf = true
is_of_dictionary calls.Erase = true
is_of_dictionary calls.EraseAll = true
is_of_dictionary call = false
