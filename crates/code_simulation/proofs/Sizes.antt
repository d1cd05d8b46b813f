-- How long the code of a phrase is: it stands in phrase_code, and is handed on.
pub use Rattle.phrase_code.proofs.Sizes.{length_code, Sized, joined, sized_as, single, none, known_names, known_formals, known_block, kind_found, begin_sized, make_sized, result_sized, kind_sized, named_sized, element_sized, goto_kind_sized, goto_sized, declare_sized, declare_arrays_sized, subarray_sized, hand_on_sized, jumps_sized, text_sized, prepares_sized, place_back_sized, place_backs_sized, given_sized, alone_sized, back_sized, through_sized, call_sized, bare_sized, head_found, code_sized, each_sized, fields_sized, parts_sized, list_sized, writes_sized, reads_sized, cards_sized, items_sized, bounds_sized, decls_sized, subscripts_sized, actuals_sized, actual_sized, backs_sized, back_of_sized, texts_sized, text_of_sized}
