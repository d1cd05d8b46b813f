-- The code of each phrase does what the phrase does: by induction on the steps that are left, and then on the phrase. The kinds that are not
-- proved yet are open goals here, each by its name.
use Rattle.std.proofs.Common.{ℕ, zero, suc}
use Rattle.program_meaning.specs.Phrases.{Phrase, Empty, Constant, Named, Variable, Array, Label, Procedure, Copied, Unary, Binary, Relation, IsClass, Element, Field, Part, Record, RecordAlone, IfThen, Case, Block, Call, Assign, WhileDo, ForStep, ForList, Goto, Assert, Write, Read, ReadCard, IoControl, Phrases, no_phrases, phrase_and, Targets, no_targets, target_and, Items, no_items, item_and, Bounds, no_bounds, bound_and, Decls, no_decls, variables_and, arrays_and, procedure_and}
use Rattle.program_meaning.specs.State as state
use Rattle.program_meaning.specs.State.{State, Setting, M, Use, for_value, for_place}
use Rattle.program_meaning.specs.Environments.{Bodied, Job, items_job, run, go_items}
use Rattle.stack_code.specs.Code.{Code}
use Rattle.code_simulation.specs.Written.{IsWritten, EachWritten, TargetsWritten, ItemsWritten, BoundsWritten, DeclsWritten}
use Rattle.code_simulation.specs.Following.{PhraseFollows, LaterFollows}
use Rattle.code_simulation.proofs.Operators.{empty_follows, constant_follows, unary_follows, binary_follows, relation_follows}
use Rattle.code_simulation.proofs.Names.{named_follows, standard_follows}
use Rattle.code_simulation.proofs.Choices.{Each, each_none, each_and, if_then_follows, case_follows}
use Rattle.code_simulation.proofs.Statements.{EachDoes, does_none, does_and, TargetsDo, targets_none, targets_and, assign_follows, assert_follows, control_follows, write_follows, read_follows, read_card_follows}
use Rattle.code_simulation.proofs.Loops.{while_follows, while_job_follows}
use Rattle.code_simulation.proofs.Jumping.{goto_follows}
use Rattle.code_simulation.proofs.Items.{EachItem, items_none, items_and, items_job_follows}
use Rattle.code_simulation.proofs.Arrays.{EachBound, bounds_none, bounds_and}
use Rattle.code_simulation.proofs.Blocks.{EachDecl, decls_none, decls_variables, decls_arrays, decls_procedure, block_follows}
use Rattle.code_simulation.proofs.Places.{is_class_follows, field_follows, part_follows}
use Rattle.code_simulation.proofs.Elements.{element_follows}
use Rattle.code_simulation.proofs.Fors.{for_step_follows, step_job_follows}
use Rattle.code_simulation.proofs.ForLists.{for_list_follows, turn_job_follows}
use Rattle.code_simulation.proofs.Records.{record_alone_follows, record_follows}
use Rattle.code_simulation.proofs.Calls.{call_follows}
use Rattle.code_simulation.proofs.Spotless.{IsClean, clean_caught, clean_items, runs_are_clean}
use Rattle.program_meaning.specs.Phrases.{Actuals, no_actuals, actual_and, Actual, Given, Alone, Subarray, Subscripts, no_subscripts, star_and, subscript_and}
use Rattle.code_simulation.specs.Written.{ActualsWritten, ActualWritten, SubscriptsWritten}
use Rattle.code_simulation.proofs.Subarrays.{EachStar, stars_none, stars_star, stars_and}
use Rattle.code_simulation.proofs.ActualLists.{EachPhrase, PhrasesDo, phrases_none, phrases_and}

module _ (set : Setting) (program : Code) (later : Job → M Bodied state.Given) (hl : LaterFollows set program later) (clean : (job : Job) (s : State Bodied) → IsClean job (later job s)) where
  mutual
    pub phrase_follows : (a : Phrase) → IsWritten a → PhraseFollows set program later a
    phrase_follows Empty w = empty_follows set program later
    phrase_follows (Constant v) w = constant_follows set program later v
    phrase_follows (Named x) w = named_follows set program later hl x
    phrase_follows (Variable k) w = standard_follows set program later hl k w
    phrase_follows (Array k given) w = absurd w
    phrase_follows (Label l) w = absurd w
    phrase_follows (Procedure k) w = absurd w
    phrase_follows (Copied m a) w = absurd w
    phrase_follows (Unary op a) w = unary_follows set program later op a (phrase_follows a w)
    phrase_follows (Binary op a b) w = binary_follows set program later op a b (phrase_follows a w.0) (phrase_follows b w.1)
    phrase_follows (Relation op a b) w = relation_follows set program later op a b (phrase_follows a w.0) (phrase_follows b w.1)
    phrase_follows (IsClass a class) w = is_class_follows set program later a class (phrase_follows a w)
    phrase_follows (Element (Named x) given) w = element_follows set program later x given (each_value given w.1)
    phrase_follows (Element a given) w = absurd w.0
    phrase_follows (Field class position a) w = field_follows set program later class position a (phrase_follows a w)
    phrase_follows (Part m n a start) w = part_follows set program later m n a start (phrase_follows a w.0) (phrase_follows start w.1)
    phrase_follows (Record class types values) w = record_follows set program later class types values (each_value values w)
    phrase_follows (RecordAlone class n) w = record_alone_follows set program later class n
    phrase_follows (IfThen st t a b c) w = if_then_follows set program later st t a b c (phrase_follows a w.0) (phrase_follows b w.1) (phrase_follows c w.2)
    phrase_follows (Case st t a parts) w = case_follows set program later st t a parts (phrase_follows a w.0) (each_part parts w.1)
    phrase_follows (Block st p decls items) w = block_follows set program later hl (λ made at items' e s. clean_caught made (λ j. later (items_job made at items' e j)) (go_items set later items' at e s) (clean_items set later clean items' at e s) (λ j s1. clean (items_job made at items' e j) s1)) st p decls items (each_decl decls w.0) (each_item items w.1) w.0 w.1
    phrase_follows (Call st compares p (Named x) given) w = call_follows set program later hl clean st compares p x given (each_phrase given w.1)
    phrase_follows (Call st compares p a given) w = absurd w.0
    phrase_follows (Assign st t a b) w = assign_follows set program later st t a b (phrase_follows a w.0) (phrase_follows b w.1)
    phrase_follows (WhileDo st a b) w = while_follows set program later hl st a b w.0 w.1 (phrase_follows a w.0)
    phrase_follows (ForStep st x a b c body) w = for_step_follows set program later hl st x a b c body w.3 (phrase_follows a w.0) (phrase_follows b w.1) (phrase_follows c w.2)
    phrase_follows (ForList st x values body) w = for_list_follows set program later hl st x values body (each_value values w.0) w.1
    phrase_follows (Goto st (Named x)) w = goto_follows set program later st x
    phrase_follows (Goto st a) w = absurd w
    phrase_follows (Assert st a) w = assert_follows set program later st a (phrase_follows a w)
    phrase_follows (Write st first roles values) w = write_follows set program later st first roles values (each_value values w)
    phrase_follows (Read st next targets) w = read_follows set program later st next targets (each_target targets w)
    phrase_follows (ReadCard st targets) w = read_card_follows set program later st targets (each_target targets w)
    phrase_follows (IoControl st a) w = control_follows set program later st a (phrase_follows a w)

    each_phrase : (given : Actuals) → ActualsWritten given → EachPhrase set program later given
    each_phrase no_actuals w = phrases_none
    each_phrase (actual_and a rest) w = phrases_and (actual_phrases a w.0) (each_phrase rest w.1)

    actual_phrases : (a : Actual) → ActualWritten a → PhrasesDo set program later a
    actual_phrases (Given v g first a) w = (w, phrase_follows a w)
    actual_phrases (Alone p (Named x)) w = tt
    actual_phrases (Alone p a) w = absurd w
    actual_phrases (Subarray (Named x) given) w = each_star given w.1
    actual_phrases (Subarray a given) w = absurd w.0

    each_star : (given : Subscripts) → SubscriptsWritten given → EachStar set program later given
    each_star no_subscripts w = stars_none
    each_star (star_and rest) w = stars_star (each_star rest w)
    each_star (subscript_and a rest) w = stars_and (phrase_follows a w.0) (each_star rest w.1)

    each_part : (parts : Phrases) → EachWritten parts → Each set program later parts
    each_part no_phrases w = each_none
    each_part (phrase_and a rest) w = each_and (phrase_follows a w.0) (each_part rest w.1)

    each_value : (values : Phrases) → EachWritten values → EachDoes set program later values
    each_value no_phrases w = does_none
    each_value (phrase_and a rest) w = does_and (phrase_follows a w.0) (each_value rest w.1)

    each_target : (targets : Targets) → TargetsWritten targets → TargetsDo set program later targets
    each_target no_targets w = targets_none
    each_target (target_and t a rest) w = targets_and (phrase_follows a w.0) (each_target rest w.1)

    pub each_item : (items : Items) → ItemsWritten items → EachItem set program later items
    each_item no_items w = items_none
    each_item (item_and labels a rest) w = items_and (phrase_follows a w.0) (each_item rest w.1)

    each_bound : (pairs : Bounds) → BoundsWritten pairs → EachBound set program later pairs
    each_bound no_bounds w = bounds_none
    each_bound (bound_and a b rest) w = bounds_and (phrase_follows a w.0) (phrase_follows b w.1) (each_bound rest w.2)

    each_decl : (decls : Decls) → DeclsWritten decls → EachDecl set program later decls
    each_decl no_decls w = decls_none
    each_decl (variables_and xs rest) w = decls_variables (each_decl rest w)
    each_decl (arrays_and t xs pairs rest) w = decls_arrays (each_bound pairs w.0) (each_decl rest w.1)
    each_decl (procedure_and x result formals body rest) w = decls_procedure (each_decl rest w.1)

-- whatever the bound on steps
pub runs_follow : (set : Setting) (program : Code) (n : ℕ) → LaterFollows set program (run set n)
runs_follow set program zero = record {
  phrase = λ u at a wa w b h s c e mode k held code wanted l ft. tt;
  while = λ at a body wa wb w b h s c e k held code l ft. tt;
  items = λ made at items wi outer w b h s c e k n held et ec eo el ea few code l ft dm. tt;
  step = λ at x i j n body wb w b h s c e k held code q l ft few. tt;
  turn = λ at x i body wb w b h s c e k back held code q l ft few. tt;
}
runs_follow set program (suc n) =
    let hl = runs_follow set program n in
    let clean = runs_are_clean set n in
    record {
      phrase = λ u at a wa. (phrase_follows set program (run set n) hl clean a wa).by u at;
      while = λ at a body wa wb. while_job_follows set program (run set n) hl at a body wa wb (phrase_follows set program (run set n) hl clean a wa) (phrase_follows set program (run set n) hl clean body wb);
      items = λ made at items wi. items_job_follows set program (run set n) hl made at items wi (each_item set program (run set n) hl clean items wi);
      step = λ at x i j n' body wb. step_job_follows set program (run set n) hl at x i j n' body wb (phrase_follows set program (run set n) hl clean body wb);
      turn = λ at x i body wb. turn_job_follows set program (run set n) at x i body (phrase_follows set program (run set n) hl clean body wb);
    }
