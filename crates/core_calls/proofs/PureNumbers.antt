-- The number of a call is its place among the variants.
use Rattle.std.proofs.Common.{◌≡◌, refl}
use denote.Enum.Declared.{tag_of}
use Rattle.core_calls.specs.CallCodes.{number_of_pure}
use Rattle.core_calls.specs.contracts.pure.PureCall.{the_type}
use Rattle.core_calls.specs.declared.pure.PureCall.{PureCall}
use Rattle.core_calls.specs.declared.pure.PureCall.TheVariants as calls

pub tag_is_number : (k : PureCall) → tag_of the_type k ≡ number_of_pure k
tag_is_number calls.Add = refl
tag_is_number calls.Subtract = refl
tag_is_number calls.Multiply = refl
tag_is_number calls.Keep = refl
tag_is_number calls.Negate = refl
tag_is_number calls.Divide = refl
tag_is_number calls.Remainder = refl
tag_is_number calls.Absolute = refl
tag_is_number calls.BitAnd = refl
tag_is_number calls.BitOr = refl
tag_is_number calls.BitXor = refl
tag_is_number calls.BitNot = refl
tag_is_number calls.Equal = refl
tag_is_number calls.NotEqual = refl
tag_is_number calls.Same = refl
tag_is_number calls.NotSame = refl
tag_is_number calls.Less = refl
tag_is_number calls.AtMost = refl
tag_is_number calls.Greater = refl
tag_is_number calls.AtLeast = refl
tag_is_number calls.And = refl
tag_is_number calls.Or = refl
tag_is_number calls.Xor = refl
tag_is_number calls.Not = refl
tag_is_number calls.IsInteger = refl
tag_is_number calls.IsNumber = refl
tag_is_number calls.IsAtom = refl
tag_is_number calls.IsBoolean = refl
tag_is_number calls.IsTuple = refl
tag_is_number calls.IsList = refl
tag_is_number calls.IsPid = refl
tag_is_number calls.IsReference = refl
tag_is_number calls.IsFloat = refl
tag_is_number calls.IsBinary = refl
tag_is_number calls.IsRecord = refl
tag_is_number calls.Element = refl
tag_is_number calls.SetElement = refl
tag_is_number calls.TupleSize = refl
tag_is_number calls.Head = refl
tag_is_number calls.Tail = refl
tag_is_number calls.Length = refl
tag_is_number calls.Append = refl
tag_is_number calls.Without = refl
tag_is_number calls.TupleToList = refl
tag_is_number calls.ListToTuple = refl
tag_is_number calls.OwnPid = refl
tag_is_number calls.Put = refl
tag_is_number calls.Get = refl
tag_is_number calls.GetAll = refl
tag_is_number calls.GetKeys = refl
tag_is_number calls.GetKeysOf = refl
tag_is_number calls.Erase = refl
tag_is_number calls.EraseAll = refl
tag_is_number calls.Error = refl
tag_is_number calls.ErrorWith = refl
tag_is_number calls.Exit = refl
tag_is_number calls.Throw = refl
tag_is_number calls.ModuleInfo = refl
tag_is_number calls.ModuleInfoItem = refl
tag_is_number calls.Reverse = refl
tag_is_number calls.Member = refl
tag_is_number calls.AppendLists = refl
