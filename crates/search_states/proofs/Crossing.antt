-- What is known of the worlds of a module may be shared by threads: each type by its fields.
use denote.Param.Send.{IsSend, IsSync, sendable, view_send, view_sync}
use denote.Param.SendFields.{declared_send, declared_sync, variants_send, variants_sync}
use denote.Ref.{NamedLft}
use Rattle.core_tree.below.indexmap.proofs.map.IndexMap.TheSendSync as map
use Rattle.core_tree.proofs.constant.Consts.TheLaws.TheKnot as constants
use Rattle.core_tree.proofs.module.FunctionName.TheSendSync as function
use Rattle.core_tree.proofs.module.NamedFunction.TheSendSync as named
use Rattle.core_tree.proofs.pattern.Alias.TheLaws.TheKnot as patterns
use Rattle.core_tree.proofs.tree.Call.TheLaws.TheKnot as expressions
use Rattle.core_tree.proofs.tree.Callee.TheSendSync as callee
use Rattle.core_tree.proofs.variable.Variable.TheSendSync as variable
use Rattle.core_tree.specs.contracts.module.Attribute as Attribute
use Rattle.core_tree.specs.contracts.module.Definition as Definition
use Rattle.core_tree.specs.contracts.module.Module as Module
use Rattle.core_tree.specs.contracts.module.Module.TheInside as ModuleInside
use Rattle.core_tree.specs.contracts.tree.Clause as Clause
use Rattle.core_tree.specs.contracts.tree.Expr as Expr
use Rattle.core_tree.specs.contracts.tree.Receive as Receive
use Rattle.core_tree.specs.contracts.tree.Try as Try
use Rattle.search_levels.proofs.index.Index.TheSendSync as index
use Rattle.search_numbers.proofs.known.Shape.TheSendSync as shape
use Rattle.search_numbers.proofs.touch.Touch.TheSendSync as touch
use Rattle.search_numbers.specs.contracts.known.Known as Known
use Rattle.search_numbers.specs.contracts.remembered.Remembered as Remembered
use Rattle.search_numbers.specs.contracts.store.Part as Part
use Rattle.search_numbers.specs.contracts.store.Store as Store
use Rattle.search_states.specs.contracts.numbered.Numbered as Numbered
use Rattle.std.proofs.Crossing.{crosses}
use Rattle.std.proofs.MapsCrossing as maps
use Rattle.term_core.proofs.atom.Atom.TheSendSync as atom
use Rattle.term_core.proofs.pid.Pid.TheSendSync as pid
use Rattle.term_core.proofs.pid.RefId.TheSendSync as reference
use Rattle.term_core.proofs.step.Step.TheSendSync as step
use Rattle.term_core.proofs.term.Pair.TheLaws.TheKnot as terms
use Rattle.term_core.specs.contracts.term.Term as Term
use Rattle.term_core.specs.contracts.term.Terms as Terms
use Rattle.world_identities.specs.contracts.identity.Identity as Identity
use Rattle.world_model.proofs.rule.Rule.TheSendSync as rule
use Rattle.world_records.below.core_calls.proofs.call.CallKind.TheSendSync as call
use Rattle.world_records.below.core_eval.specs.contracts.machine.Machine as Machine
use Rattle.world_records.below.core_eval.specs.contracts.machine.Machine.TheInside as MachineInside
use Rattle.world_records.below.core_eval.specs.contracts.request.Request as Request
use Rattle.world_records.below.core_pure_calls.specs.contracts.dictionary.Dictionary as Dictionary
use Rattle.world_records.below.core_pure_calls.specs.contracts.dictionary.Dictionary.TheInside as DictionaryInside
use Rattle.world_records.below.core_pure_calls.specs.contracts.dictionary.Entry as Entry
use Rattle.world_records.below.core_stack.proofs.layers.Layer.TheLaws.TheKnot as layers
use Rattle.world_records.below.core_stack.specs.contracts.bindings.Binding as Binding
use Rattle.world_records.below.core_stack.specs.contracts.bindings.Bindings as Bindings
use Rattle.world_records.below.core_stack.specs.contracts.bindings.Bindings.TheInside as BindingsInside
use Rattle.world_records.below.core_stack.specs.contracts.frame.Frame as Frame
use Rattle.world_records.below.core_stack.specs.contracts.layers.Layers as Layers
use Rattle.world_records.below.core_stack.specs.contracts.stack.Stack as Stack
use Rattle.world_records.below.core_stack.specs.contracts.stack.Stack.TheInside as StackInside
use Rattle.world_records.below.ets_rules.specs.contracts.tables.Tables as Tables
use Rattle.world_records.below.ets_store.specs.contracts.object.Object as Object
use Rattle.world_records.below.ets_store.specs.contracts.object.Object.TheInside as ObjectInside
use Rattle.world_records.below.ets_store.specs.contracts.objects.Objects as Objects
use Rattle.world_records.below.ets_store.specs.contracts.objects.Objects.TheInside as ObjectsInside
use Rattle.world_records.below.ets_store.specs.contracts.row_map.RowMap as RowMap
use Rattle.world_records.below.ets_store.specs.contracts.row_map.RowMap.TheInside as RowMapInside
use Rattle.world_records.below.ets_store.specs.contracts.rows.Rows as Rows
use Rattle.world_records.below.ets_store.specs.contracts.rows.Rows.TheInside as RowsInside
use Rattle.world_records.below.ets_store.specs.contracts.table.Heir as Heir
use Rattle.world_records.below.ets_store.specs.contracts.table.Table as Table
use Rattle.world_records.below.ets_tables.proofs.name_map.NameMap.TheSendSync as name_map
use Rattle.world_records.below.ets_tables.specs.contracts.registry.Registry as Registry
use Rattle.world_records.below.ets_tables.specs.contracts.shelves.Shelves as Shelves
use Rattle.world_records.below.proc_groups.proofs.groups.Groups.TheSendSync as groups
use Rattle.world_records.below.proc_links.proofs.guards.Guards.TheSendSync as guards
use Rattle.world_records.below.proc_links.proofs.links.Links.TheSendSync as links
use Rattle.world_records.below.proc_links.proofs.names.Names.TheSendSync as names
use Rattle.world_records.below.proc_links.proofs.watchers.Watchers.TheSendSync as watchers
use Rattle.world_records.below.proc_machines.proofs.pids.Pids.TheSendSync as pids
use Rattle.world_records.below.proc_machines.specs.contracts.course.Course as Course
use Rattle.world_records.below.proc_machines.specs.contracts.courses.CourseList as CourseList
use Rattle.world_records.below.proc_machines.specs.contracts.courses.Courses as Courses
use Rattle.world_records.below.proc_machines.specs.contracts.processes.Processes as Processes
use Rattle.world_records.below.proc_mailboxes.specs.contracts.held.Held as Held
use Rattle.world_records.below.proc_mailboxes.specs.contracts.held.Held.TheInside as HeldInside
use Rattle.world_records.below.proc_mailboxes.specs.contracts.mailbox_map.MailboxMap as MailboxMap
use Rattle.world_records.below.proc_mailboxes.specs.contracts.mailbox_map.MailboxMap.TheInside as MailboxMapInside
use Rattle.world_records.below.proc_mailboxes.specs.contracts.mailboxes.Mailboxes as Mailboxes
use Rattle.world_records.below.proc_mailboxes.specs.contracts.mailboxes.Mailboxes.TheInside as MailboxesInside
use Rattle.world_records.below.proc_signals.specs.contracts.channel.Channel as Channel
use Rattle.world_records.below.proc_signals.specs.contracts.channel.Channel.TheInside as ChannelInside
use Rattle.world_records.below.proc_signals.specs.contracts.channels.Channels as Channels
use Rattle.world_records.below.proc_signals.specs.contracts.channels.Channels.TheInside as ChannelsInside
use Rattle.world_records.below.proc_signals.specs.contracts.mailbox.Mailbox as Mailbox
use Rattle.world_records.below.proc_signals.specs.contracts.mailbox.Mailbox.TheInside as MailboxInside
use Rattle.world_records.below.proc_signals.specs.contracts.messages.Messages as Messages
use Rattle.world_records.below.proc_signals.specs.contracts.messages.Messages.TheInside as MessagesInside
use Rattle.world_records.below.proc_signals.specs.contracts.queue.Queue as Queue
use Rattle.world_records.below.proc_signals.specs.contracts.queue.Queue.TheInside as QueueInside
use Rattle.world_records.below.proc_signals.specs.contracts.senders.Senders as Senders
use Rattle.world_records.below.proc_signals.specs.contracts.senders.Senders.TheInside as SendersInside
use Rattle.world_records.below.proc_signals.specs.contracts.signal.Signal as Signal
use Rattle.world_records.below.world_model.proofs.table.Kind.TheSendSync as kind
use Rattle.world_records.below.world_model.proofs.table.Protection.TheSendSync as protection
use Rattle.world_records.proofs.place.Place.TheSendSync as place
use Rattle.world_records.specs.contracts.records.Records as Records

-- ---- modules

expr_sync : IsSync Expr.the_row
expr_sync = search (callee.the_sync, variable.the_sync, atom.the_sync, crosses, patterns.crosses, expressions.crosses, sendable) depth 60 fits 20000

clause_sync : IsSync Clause.the_row
clause_sync = search (callee.the_sync, variable.the_sync, atom.the_sync, crosses, patterns.crosses, expressions.crosses, sendable) depth 60 fits 20000

receive_sync : IsSync Receive.the_row
receive_sync = search (callee.the_sync, variable.the_sync, atom.the_sync, crosses, patterns.crosses, expressions.crosses, sendable) depth 60 fits 20000

try_sync : IsSync Try.the_row
try_sync = search (callee.the_sync, variable.the_sync, atom.the_sync, crosses, patterns.crosses, expressions.crosses, sendable) depth 60 fits 20000

attribute_sync : IsSync Attribute.the_row
attribute_sync = search (atom.the_sync, crosses, constants.crosses, sendable) depth 60 fits 20000

definition_sync : IsSync Definition.the_row
definition_sync = declared_sync Definition.the_type (search sendable, (search (variable.the_sync, crosses, maps.crosses, sendable) depth 20, (expr_sync, tt)))

module_sync : IsSync Module.the_row
module_sync = view_sync _ _ _ _ _ (declared_sync ModuleInside.the_type (atom.the_sync, (search (named.the_sync, crosses, maps.crosses, sendable) depth 20, (search (attribute_sync, crosses, maps.crosses, sendable) depth 20, (search (definition_sync, function.the_sync, map.the_sync, crosses, sendable) depth 30, tt)))))

-- ---- terms

term_send : IsSend Term.the_row
term_send = search (crosses, terms.crosses, sendable) depth 60 fits 20000

term_sync : IsSync Term.the_row
term_sync = search (crosses, terms.crosses, sendable) depth 60 fits 20000

terms_send : IsSend Terms.the_row
terms_send = search (crosses, terms.crosses, sendable) depth 60 fits 20000

terms_sync : IsSync Terms.the_row
terms_sync = search (crosses, terms.crosses, sendable) depth 60 fits 20000

-- ---- machines

binding_send : (a : NamedLft) → IsSend (Binding.the_row a)
binding_send a = declared_send (Binding.the_type a) (search (crosses, sendable) depth 20, (term_send, tt))

binding_sync : (a : NamedLft) → IsSync (Binding.the_row a)
binding_sync a = declared_sync (Binding.the_type a) (search (crosses, sendable) depth 20, (term_sync, tt))

bindings_send : (a : NamedLft) → IsSend (Bindings.the_row a)
bindings_send a = view_send _ _ _ _ _ (declared_send (BindingsInside.the_type a) (search (binding_send, crosses, maps.crosses, sendable) depth 20, tt))

bindings_sync : (a : NamedLft) → IsSync (Bindings.the_row a)
bindings_sync a = view_sync _ _ _ _ _ (declared_sync (BindingsInside.the_type a) (search (binding_sync, crosses, maps.crosses, sendable) depth 20, tt))

frame_send : (a : NamedLft) → IsSend (Frame.the_row a)
frame_send a = search (bindings_send, terms_send, expr_sync, clause_sync, receive_sync, try_sync, callee.the_sync, variable.the_sync, crosses, layers.crosses, sendable) depth 60 fits 20000

frame_sync : (a : NamedLft) → IsSync (Frame.the_row a)
frame_sync a = search (bindings_sync, terms_sync, expr_sync, clause_sync, receive_sync, try_sync, callee.the_sync, variable.the_sync, crosses, layers.crosses, sendable) depth 60 fits 20000

layers_send : (a : NamedLft) → IsSend (Layers.the_row a)
layers_send a = search (bindings_send, bindings_sync, terms_send, terms_sync, expr_sync, clause_sync, receive_sync, try_sync, callee.the_sync, variable.the_sync, crosses, layers.crosses, sendable) depth 60 fits 20000

layers_sync : (a : NamedLft) → IsSync (Layers.the_row a)
layers_sync a = search (bindings_send, bindings_sync, terms_send, terms_sync, expr_sync, clause_sync, receive_sync, try_sync, callee.the_sync, variable.the_sync, crosses, layers.crosses, sendable) depth 60 fits 20000

stack_send : (a : NamedLft) → IsSend (Stack.the_row a)
stack_send a = view_send _ _ _ _ _ (declared_send (StackInside.the_type a) ((search (frame_send, crosses, maps.crosses, sendable) depth 20), ((search (layers_send, crosses, maps.crosses, sendable) depth 20), tt)))

stack_sync : (a : NamedLft) → IsSync (Stack.the_row a)
stack_sync a = view_sync _ _ _ _ _ (declared_sync (StackInside.the_type a) ((search (frame_sync, crosses, maps.crosses, sendable) depth 20), ((search (layers_sync, crosses, maps.crosses, sendable) depth 20), tt)))

request_send : IsSend Request.the_row
request_send = variants_send Request.enum ((call.the_send, ((search (terms_send, terms_sync, crosses, maps.crosses, sendable) depth 20), tt)), (((search sendable), tt), ((term_send, tt), (tt, tt))))

request_sync : IsSync Request.the_row
request_sync = variants_sync Request.enum ((call.the_sync, ((search (terms_send, terms_sync, crosses, maps.crosses, sendable) depth 20), tt)), (((search sendable), tt), ((term_sync, tt), (tt, tt))))

entry_send : IsSend Entry.the_row
entry_send = declared_send Entry.the_type (term_send, (term_send, tt))

entry_sync : IsSync Entry.the_row
entry_sync = declared_sync Entry.the_type (term_sync, (term_sync, tt))

dictionary_send : IsSend Dictionary.the_row
dictionary_send = view_send _ _ _ _ _ (declared_send DictionaryInside.the_type ((search (entry_send, entry_sync, crosses, maps.crosses, sendable) depth 20), tt))

dictionary_sync : IsSync Dictionary.the_row
dictionary_sync = view_sync _ _ _ _ _ (declared_sync DictionaryInside.the_type ((search (entry_send, entry_sync, crosses, maps.crosses, sendable) depth 20), tt))

machine_send : (a : NamedLft) → IsSend (Machine.the_row a)
machine_send a = view_send _ _ _ _ _ (declared_send (MachineInside.the_type a) ((search (module_sync, crosses, maps.crosses, sendable) depth 20), (pid.the_send, ((search (stack_send, crosses, maps.crosses, sendable) depth 20), (dictionary_send, (request_send, ((search sendable), tt)))))))

machine_sync : (a : NamedLft) → IsSync (Machine.the_row a)
machine_sync a = view_sync _ _ _ _ _ (declared_sync (MachineInside.the_type a) ((search (module_sync, crosses, maps.crosses, sendable) depth 20), (pid.the_sync, ((search (stack_sync, crosses, maps.crosses, sendable) depth 20), (dictionary_sync, (request_sync, ((search sendable), tt)))))))

-- ---- processes

course_send : (a : NamedLft) → IsSend (Course.the_row a)
course_send a = declared_send (Course.the_type a) ((search (machine_send, crosses, maps.crosses, sendable) depth 20), ((search sendable), tt))

course_sync : (a : NamedLft) → IsSync (Course.the_row a)
course_sync a = declared_sync (Course.the_type a) ((search (machine_sync, crosses, maps.crosses, sendable) depth 20), ((search sendable), tt))

course_list_send : (a : NamedLft) → IsSend (CourseList.the_row a)
course_list_send a = declared_send (CourseList.the_type a) ((search (course_send, course_sync, pid.the_send, crosses, maps.crosses, sendable) depth 30), tt)

course_list_sync : (a : NamedLft) → IsSync (CourseList.the_row a)
course_list_sync a = declared_sync (CourseList.the_type a) ((search (course_send, course_sync, pid.the_sync, crosses, maps.crosses, sendable) depth 30), tt)

courses_send : (a : NamedLft) → IsSend (Courses.the_row a)
courses_send a = declared_send (Courses.the_type a) ((search (course_list_send, course_list_sync, crosses, maps.crosses, sendable) depth 20), tt)

courses_sync : (a : NamedLft) → IsSync (Courses.the_row a)
courses_sync a = declared_sync (Courses.the_type a) ((search (course_list_send, course_list_sync, crosses, maps.crosses, sendable) depth 20), tt)

processes_send : (a : NamedLft) → IsSend (Processes.the_row a)
processes_send a = declared_send (Processes.the_type a) ((search (module_sync, crosses, maps.crosses, sendable) depth 20), ((search (courses_send, crosses, maps.crosses, sendable) depth 20), (pids.the_send, (pids.the_send, tt))))

processes_sync : (a : NamedLft) → IsSync (Processes.the_row a)
processes_sync a = declared_sync (Processes.the_type a) ((search (module_sync, crosses, maps.crosses, sendable) depth 20), ((search (courses_sync, crosses, maps.crosses, sendable) depth 20), (pids.the_sync, (pids.the_sync, tt))))

-- ---- messages and signals

messages_send : IsSend Messages.the_row
messages_send = view_send _ _ _ _ _ (declared_send MessagesInside.the_type ((search (term_send, crosses, maps.crosses, sendable) depth 20), tt))

messages_sync : IsSync Messages.the_row
messages_sync = view_sync _ _ _ _ _ (declared_sync MessagesInside.the_type ((search (term_sync, crosses, maps.crosses, sendable) depth 20), tt))

mailbox_send : IsSend Mailbox.the_row
mailbox_send = view_send _ _ _ _ _ (declared_send MailboxInside.the_type ((search (messages_send, messages_sync, crosses, maps.crosses, sendable) depth 20), tt))

mailbox_sync : IsSync Mailbox.the_row
mailbox_sync = view_sync _ _ _ _ _ (declared_sync MailboxInside.the_type ((search (messages_send, messages_sync, crosses, maps.crosses, sendable) depth 20), tt))

held_send : IsSend Held.the_row
held_send = view_send _ _ _ _ _ (declared_send HeldInside.the_type (mailbox_send, tt))

held_sync : IsSync Held.the_row
held_sync = view_sync _ _ _ _ _ (declared_sync HeldInside.the_type (mailbox_sync, tt))

mailbox_map_send : IsSend MailboxMap.the_row
mailbox_map_send = view_send _ _ _ _ _ (declared_send MailboxMapInside.the_type ((search (held_send, pid.the_send, crosses, maps.crosses, sendable) depth 20), tt))

mailbox_map_sync : IsSync MailboxMap.the_row
mailbox_map_sync = view_sync _ _ _ _ _ (declared_sync MailboxMapInside.the_type ((search (held_sync, pid.the_sync, crosses, maps.crosses, sendable) depth 20), tt))

mailboxes_send : IsSend Mailboxes.the_row
mailboxes_send = view_send _ _ _ _ _ (declared_send MailboxesInside.the_type ((search (mailbox_map_send, mailbox_map_sync, crosses, maps.crosses, sendable) depth 20), tt))

mailboxes_sync : IsSync Mailboxes.the_row
mailboxes_sync = view_sync _ _ _ _ _ (declared_sync MailboxesInside.the_type ((search (mailbox_map_send, mailbox_map_sync, crosses, maps.crosses, sendable) depth 20), tt))

signal_send : IsSend Signal.the_row
signal_send = variants_send Signal.enum ((term_send, tt), ((term_send, tt), ((term_send, tt), ((reference.the_send, (term_send, tt)), ((reference.the_send, (term_send, tt)), ((reference.the_send, (term_send, tt)), tt))))))

signal_sync : IsSync Signal.the_row
signal_sync = variants_sync Signal.enum ((term_sync, tt), ((term_sync, tt), ((term_sync, tt), ((reference.the_sync, (term_sync, tt)), ((reference.the_sync, (term_sync, tt)), ((reference.the_sync, (term_sync, tt)), tt))))))

queue_send : IsSend Queue.the_row
queue_send = view_send _ _ _ _ _ (declared_send QueueInside.the_type (signal_send, ((search (signal_send, crosses, maps.crosses, sendable) depth 20), tt)))

queue_sync : IsSync Queue.the_row
queue_sync = view_sync _ _ _ _ _ (declared_sync QueueInside.the_type (signal_sync, ((search (signal_sync, crosses, maps.crosses, sendable) depth 20), tt)))

channel_send : IsSend Channel.the_row
channel_send = view_send _ _ _ _ _ (declared_send ChannelInside.the_type (pid.the_send, (pid.the_send, ((search (queue_send, queue_sync, crosses, maps.crosses, sendable) depth 20), tt))))

channel_sync : IsSync Channel.the_row
channel_sync = view_sync _ _ _ _ _ (declared_sync ChannelInside.the_type (pid.the_sync, (pid.the_sync, ((search (queue_send, queue_sync, crosses, maps.crosses, sendable) depth 20), tt))))

senders_send : IsSend Senders.the_row
senders_send = view_send _ _ _ _ _ (declared_send SendersInside.the_type ((search (channel_send, crosses, maps.crosses, sendable) depth 20), tt))

senders_sync : IsSync Senders.the_row
senders_sync = view_sync _ _ _ _ _ (declared_sync SendersInside.the_type ((search (channel_sync, crosses, maps.crosses, sendable) depth 20), tt))

channels_send : IsSend Channels.the_row
channels_send = view_send _ _ _ _ _ (declared_send ChannelsInside.the_type ((search (senders_send, senders_sync, crosses, maps.crosses, sendable) depth 20), tt))

channels_sync : IsSync Channels.the_row
channels_sync = view_sync _ _ _ _ _ (declared_sync ChannelsInside.the_type ((search (senders_send, senders_sync, crosses, maps.crosses, sendable) depth 20), tt))

-- ---- tables

object_send : IsSend Object.the_row
object_send = view_send _ _ _ _ _ (declared_send ObjectInside.the_type ((search (terms_send, terms_sync, crosses, maps.crosses, sendable) depth 20), tt))

object_sync : IsSync Object.the_row
object_sync = view_sync _ _ _ _ _ (declared_sync ObjectInside.the_type ((search (terms_send, terms_sync, crosses, maps.crosses, sendable) depth 20), tt))

objects_send : IsSend Objects.the_row
objects_send = view_send _ _ _ _ _ (declared_send ObjectsInside.the_type ((search (object_send, crosses, maps.crosses, sendable) depth 20), tt))

objects_sync : IsSync Objects.the_row
objects_sync = view_sync _ _ _ _ _ (declared_sync ObjectsInside.the_type ((search (object_sync, crosses, maps.crosses, sendable) depth 20), tt))

row_map_send : IsSend RowMap.the_row
row_map_send = view_send _ _ _ _ _ (declared_send RowMapInside.the_type ((search (objects_send, term_send, crosses, maps.crosses, sendable) depth 20), tt))

row_map_sync : IsSync RowMap.the_row
row_map_sync = view_sync _ _ _ _ _ (declared_sync RowMapInside.the_type ((search (objects_sync, term_sync, crosses, maps.crosses, sendable) depth 20), tt))

rows_send : IsSend Rows.the_row
rows_send = view_send _ _ _ _ _ (declared_send RowsInside.the_type (kind.the_send, ((search sendable), ((search (row_map_send, row_map_sync, crosses, maps.crosses, sendable) depth 20), tt))))

rows_sync : IsSync Rows.the_row
rows_sync = view_sync _ _ _ _ _ (declared_sync RowsInside.the_type (kind.the_sync, ((search sendable), ((search (row_map_send, row_map_sync, crosses, maps.crosses, sendable) depth 20), tt))))

heir_send : IsSend Heir.the_row
heir_send = declared_send Heir.the_type (pid.the_send, (term_send, tt))

heir_sync : IsSync Heir.the_row
heir_sync = declared_sync Heir.the_type (pid.the_sync, (term_sync, tt))

table_send : IsSend Table.the_row
table_send = declared_send Table.the_type (atom.the_send, ((search sendable), (pid.the_send, ((search (heir_send, crosses, maps.crosses, sendable) depth 20), (protection.the_send, (rows_send, tt))))))

table_sync : IsSync Table.the_row
table_sync = declared_sync Table.the_type (atom.the_sync, ((search sendable), (pid.the_sync, ((search (heir_sync, crosses, maps.crosses, sendable) depth 20), (protection.the_sync, (rows_sync, tt))))))

shelves_send : IsSend Shelves.the_row
shelves_send = declared_send Shelves.the_type ((search (table_send, table_sync, reference.the_send, crosses, maps.crosses, sendable) depth 30), ((search (name_map.the_send, name_map.the_sync, crosses, maps.crosses, sendable) depth 20), ((search (groups.the_send, groups.the_sync, reference.the_send, reference.the_sync, crosses, maps.crosses, sendable) depth 30), tt)))

shelves_sync : IsSync Shelves.the_row
shelves_sync = declared_sync Shelves.the_type ((search (table_send, table_sync, reference.the_sync, crosses, maps.crosses, sendable) depth 30), ((search (name_map.the_send, name_map.the_sync, crosses, maps.crosses, sendable) depth 20), ((search (groups.the_send, groups.the_sync, reference.the_send, reference.the_sync, crosses, maps.crosses, sendable) depth 30), tt)))

registry_send : IsSend Registry.the_row
registry_send = declared_send Registry.the_type ((search (shelves_send, shelves_sync, crosses, maps.crosses, sendable) depth 20), tt)

registry_sync : IsSync Registry.the_row
registry_sync = declared_sync Registry.the_type ((search (shelves_send, shelves_sync, crosses, maps.crosses, sendable) depth 20), tt)

tables_send : IsSend Tables.the_row
tables_send = declared_send Tables.the_type (registry_send, tt)

tables_sync : IsSync Tables.the_row
tables_sync = declared_sync Tables.the_type (registry_sync, tt)

-- ---- what is known

records_send : (a : NamedLft) → IsSend (Records.the_row a)
records_send a = declared_send (Records.the_type a) ((search (processes_send, crosses, maps.crosses, sendable) depth 20), (mailboxes_send, (channels_send, (links.the_send, (watchers.the_send, (guards.the_send, (names.the_send, (tables_send, tt))))))))

records_sync : (a : NamedLft) → IsSync (Records.the_row a)
records_sync a = declared_sync (Records.the_type a) ((search (processes_sync, crosses, maps.crosses, sendable) depth 20), (mailboxes_sync, (channels_sync, (links.the_sync, (watchers.the_sync, (guards.the_sync, (names.the_sync, (tables_sync, tt))))))))

part_sync : (a : NamedLft) → IsSync (Part.the_row a)
part_sync a = declared_sync (Part.the_type a) (place.the_sync, ((search (records_send, records_sync, crosses, maps.crosses, sendable) depth 20), tt))

store_sync : (a : NamedLft) → IsSync (Store.the_row a)
store_sync a = declared_sync (Store.the_type a) ((search (records_sync, crosses, maps.crosses, sendable) depth 20), ((search (place.the_sync, crosses, maps.crosses, sendable) depth 20), ((search (part_sync, crosses, maps.crosses, sendable) depth 20), (index.the_sync, ((search (step.the_sync, crosses, maps.crosses, sendable) depth 20), tt)))))

identity_sync : IsSync Identity.the_row
identity_sync = variants_sync Identity.enum ((pid.the_sync, (term_sync, tt)), (((search (pid.the_sync, crosses, maps.crosses, sendable) depth 20), tt), ((pid.the_sync, tt), ((pid.the_sync, ((search sendable), (call.the_sync, ((search (terms_send, terms_sync, crosses, maps.crosses, sendable) depth 20), ((search (rule.the_sync, crosses, maps.crosses, sendable) depth 20), ((search (pid.the_sync, crosses, maps.crosses, sendable) depth 20), tt)))))), (((search (pid.the_sync, crosses, maps.crosses, sendable) depth 20), tt), tt)))))

remembered_sync : IsSync Remembered.the_row
remembered_sync = declared_sync Remembered.the_type (step.the_sync, ((search sendable), ((search (touch.the_sync, crosses, maps.crosses, sendable) depth 20), ((search (identity_sync, crosses, maps.crosses, sendable) depth 30), tt))))

known_sync : (a : NamedLft) → IsSync (Known.the_row a)
known_sync a = declared_sync (Known.the_type a) ((search (store_sync, crosses, maps.crosses, sendable) depth 20), ((search (shape.the_sync, crosses, maps.crosses, sendable) depth 20), (index.the_sync, ((search (remembered_sync, crosses, maps.crosses, sendable) depth 20), (index.the_sync, tt)))))

pub numbered_sync : (a : NamedLft) → IsSync (Numbered.the_row a)
numbered_sync a = declared_sync (Numbered.the_type a) ((search (known_sync, crosses, maps.crosses, sendable) depth 20), tt)
