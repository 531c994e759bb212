-- The words of the walks.
pub use Rattle.std.proofs.Common.{◌≡◌, ℕ, ◌+◌, ◌-◌, ◌%◌, ◌^◌, ◌<◌, ◌≤◌, List, [], ◌∷◌, ◌++◌, refl, sym, ap, subst, ◌∙◌, arith, lit<, w64, Ok, Err}
pub use mir.Syntax.{Ty, Fn}
pub use mir.Val.{Val, vint, vptr, vunit}
pub use base.Logic.{SProp, ent, emp, never, id⊢, apply∗}
pub use base.Fml.{ftrue, froom}
pub use prog.Memory.{size, align, capped}
pub use prog.Capped.{capped_is}
pub use prog.Wp.{Env, WpFn}
pub use contract.Monad.{fact, fact_i}
pub use contract.Running.{tables}
pub use types.Logic.{sem}
pub use types.Kit.{‵, raw, ◌⊛◌, some, later, prop, at_ret, ◌$◌, ◌∵◌, !, qed, by, move, keep, drop, use0, use1, use2, split, split3, join, pick, await, rewrite, regoal, fsplit, fjoin, fpick, feq_l, feq_i, flt_i}
pub use types.Part.{whole, sub, agg}
pub use types.Match.{live, in_variant}
pub use types.Run.{stop, fld, lit, unit_lit, bin, of_opd, no_more, and_then, first, switches_on, blocks, exec, returns, enter}
pub use types.ByLocal.{alloc_all, pass_all, free_all, look_at, get, get_in, get_tag, sets, sets_last, lands_as, is, env}
pub use denote.RattleType.{RattleType, owns}
pub use denote.Builtin.{usize, unit}
pub use denote.RawPtr.{Ptr, block_ptr, null_ptr, ptr_val, room_for, in_a_block}
pub use denote.Signature.{types_at}
pub use denote.Steps.{nothing, only, heard}
pub use denote.Struct.Tuple.{Tuple}
pub use denote.Triple.Entry.{alive}
pub use denote.Triple.Spec.{triple_of}
pub use denote.Triple.Call.{calls_from, calls_at}
pub use denote.Triple.Clauses.{Lasts, lasts}
pub use denote.Triple.Walked.{Stays, stay_dropped, walk_of, Goes-dropped}
pub use Rattle.core.proofs.alloc.Calls.{Answer, answer_val, Answer-Ok, Answer-err, Goes-blank}
pub use Rattle.core.proofs.alloc.Shapes.{after, head, arm_body}
pub use Rattle.core.proofs.atomic.Steps.{fm}
pub use Rattle.std_alloc.proofs.ResultValues.{and_tt}
pub use Rattle.std_alloc.proofs.Pairs.{pair_of, pair_val}
pub use Rattle.std.proofs.raw_atomic.Walks.{proved_at, leaves}
pub use Rattle.linked_list_allocator.proofs.Values.{ptr_typed, sized_val, sized_own, sized_told, sized_made}
pub use Rattle.linked_list_allocator.proofs.Nodes.{cuts, resized}
pub use Rattle.linked_list_allocator.proofs.Walks.{slot_at, then_runs}
