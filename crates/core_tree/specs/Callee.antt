-- What a call applies to its arguments.
use Rattle.core_calls.specs.declared.call.CallKind.{CallKind}
use Rattle.core_calls.specs.declared.pure.PureCall.{PureCall}
use Rattle.core_tree.specs.Named.{Function, NamedAt}

-- a call of the world, one that the process answers by itself, an exported function of this module by name and number of arguments, a defined function, or one of the two operations that raise
pub data Callee : Type 0 where
  World : (kind : CallKind) → Callee
  Pure : (kind : PureCall) → Callee
  Exported : (function : Function) → Callee
  Defined : (named : NamedAt) → Callee
  MatchFail : Callee
  Raise : Callee
