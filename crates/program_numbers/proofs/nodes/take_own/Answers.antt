use Rattle.std.proofs.Common.{◌≡◌, List, refl, sym, ap, ◌∙◌}
use Rattle.algolw_tree.specs.View.{kind_tree}
use Rattle.algolw_tree.specs.declared.phrases.Kind.{Kind, Empty, Null, Number, Truth, BitsLit, Quoted, Named, Goto, Applied', Listed', Negated', Abs', Signed', Chain', Relation', IsClass', Assign', IfThen', CaseValue', CaseDo', ForStep', ForList', WhileDo', Assert', Block'}
use Rattle.algolw_tree.specs.declared.phrases.Listed.{Listed' as listed}
use Rattle.algolw_tree.specs.declared.phrases.Chain.{Chain' as chain}
use Rattle.algolw_tree.specs.declared.phrases.Conditional.{Conditional' as conditional}
use Rattle.algolw_tree.specs.declared.phrases.CaseValue.{CaseValue' as case_value}
use Rattle.algolw_tree.specs.declared.phrases.ForStep.{ForStep' as for_step}
use Rattle.algolw_tree.specs.declared.phrases.ForList.{ForList' as for_list}
use Rattle.typed_findings.specs.Findings.{Found}
use Rattle.typed_findings.specs.Taking.{first_found, rest_found}
use Rattle.program_numbers.specs.Taken.{own_taken}
use Rattle.program_numbers.proofs.nodes.take_own.Goals as goal

-- of any phrase but an empty one something is found
taken : (k : Kind) → (k ≡ Empty → ⊥) → (found : List Found) → own_taken (kind_tree k) found ≡ (first_found found, rest_found found)
taken Empty filled found = absurd (filled refl)
taken Null filled found = refl
taken (Number n) filled found = refl
taken (Truth b) filled found = refl
taken (BitsLit b) filled found = refl
taken (Quoted t) filled found = refl
taken (Goto x) filled found = refl
taken (Named x) filled found = refl
taken (Applied' q x p shape actuals) filled found = refl
taken (Listed' q (listed x shape lists)) filled found = refl
taken (Negated' q p f k) filled found = refl
taken (Abs' q p f k) filled found = refl
taken (Signed' minus q p f k) filled found = refl
taken (Chain' q (chain p f k shape links)) filled found = refl
taken (Relation' q op p f k p2 f2 k2) filled found = refl
taken (IsClass' q p f k class) filled found = refl
taken (Assign' q p f k p2 f2 k2) filled found = refl
taken (IfThen' q (conditional p f k p2 f2 k2 otherwise)) filled found = refl
taken (CaseValue' q (case_value p f k shape values)) filled found = refl
taken (CaseDo' q p f k shape parts) filled found = refl
taken (ForStep' q (for_step x p f k step p2 f2 k2 p3 f3 k3)) filled found = refl
taken (ForList' q (for_list x shape values p f k)) filled found = refl
taken (WhileDo' q p f k p2 f2 k2) filled found = refl
taken (Assert' q p f k) filled found = refl
taken (Block' q shape decls shape2 items) filled found = refl

pub returns-in_default : goal.returns-in_default
returns-in_default c =
    let is = taken c.args.kind.now c.in_default.not-Empty c.args.found.now in
    record {
      own = c.take.ensures.first ∙ sym (ap (λ (r : Found × List Found). r.0) is);
      left = c.take.ensures.rest ∙ sym (ap (λ (r : Found × List Found). r.1) is);
    }
