-- Every name that a walk, its contract and its types use, passed on from where it stands: a proof by a walk names this one file for them.
pub use mir.Syntax.{w64, bit_and, mul, unsigned, offset, field, named, imm, add, lt, eq, ne, cast, w32, w8, mut, le, erased, sub, ty_array, ty_int, ty_bool, ty_ptr, ty_unit}
pub use mir.Val.{vint, vbool}
pub use contract.Lifetimes.{Lfts, Shares}
unfoldable pub use contract.Running.{tables_of}
pub use denote.MutBor.{now}
pub use denote.Slice.{slice_ty}
pub use denote.RattleType.{RattleType}
pub use borrow.Table.Row.{s_int, s_ptr, s_bool, s_unit, Cx, lease}
pub use borrow.Table.Rows.{sc_here, whole}
pub use borrow.Table.Referent.{rt_f, f_int, laws_f}
pub use borrow.Table.Copies.{c_rf}
pub use borrow.Rule.Scalar.{After}
pub use borrow.Rule.Slice.Mut.{set_vals}
pub use borrow.Rule.Array.Rows.{arr_f}
pub use borrow.Kind.MutSlice.{p_mut_s}
pub use borrow.Kind.ShrSlice.{p_shr_s}
pub use borrow.Fn.Kinds.{p_num, r_unit, r_num, p_mut}
pub use borrow.Fn.World.{World}
pub use borrow.Struct.Make.{FromWTs, u64_wt, u32_wt, u8_wt}
pub use Rattle.walks.proofs.Walk.{◌then◌, ◌free◌, returned, n64, fresh, over, same, at, part, lit, does, gone, ◌with◌, last, skipped, left, joined, branches, loops, flag, puts, none, num, calls, turns, n32, n8, unit, now as here, ◌$◌, begins, ends, forgets, Callee, num_of, num_lit, num_top, big, u64, Site, SeesAt}
pub use Rattle.walks.proofs.Values.{holds, value_room, copies_value, makes_struct, ◌&◌, nil, is, val_arg, ty_of, result, Value, struct_of, field_of, param, enum_of}
pub use Rattle.walks.proofs.Slices.{ptr, shr_ptr, shr_arg, a_lent, kept, mut_ptr, mut_len, mut_all, owed_len, lends, slices, backs, mut_arg, each_copied, shares, shared_len, slices_shared, slice_room, unshares, shr_len, shr_all}
pub use Rattle.walks.proofs.Elements.{cp, fetches, stores, arr_ptr, arr_room, fills, as_array, lends_array, backs_array}
pub use Rattle.walks.proofs.Meets.{Walked, Laid, meets, Cited, cites, site, Job, job_of, begun, world}
pub use denote.Array.{Array}
pub use Rattle.walks.proofs.Arrays.{to, lends_ref, backs_ref, ref_all, ref_arg}
pub use Rattle.walks.proofs.HolderSteps.{takes_slice, makes_held, as_held, a_held, held-room, held_arg}
pub use denote.Signature.{named_lft}
