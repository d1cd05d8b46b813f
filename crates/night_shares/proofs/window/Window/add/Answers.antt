use Rattle.std.proofs.Common.{◌≡◌, ◌++◌, ◌∷◌, ◌+◌, ◌<◌, [], List, ℕ, map, length, get_or, sym, ap, ◌∙◌, arith}
use Rattle.std.specs.Prelude.{decimal}
use Rattle.std.specs.List.{flat_map}
use Rattle.std.proofs.lemmas.List.{length-map, length-set}
use Rattle.night_shares.specs.Begun.{begun}
use Rattle.night_shares.specs.Held.{part_texts}
use Rattle.night_shares.specs.Plan.{job_row, row, row_by}
use Rattle.night_shares.specs.Windows.{jobs_of_chain, part_text}
use Rattle.night_shares.proofs.Windows.{bytes_more, count_more, parts_more, rows_more, text_at, texts_with}
use Rattle.night_shares.proofs.window.Window.add.Goals as goal

pub returns-clause-job : goal.returns-clause-job
returns-clause-job c = λ chains number jobs job account is pays chain_is text_is.
    let libraries = c.args.libraries.now in
    let chain = c.args.chain in
    let parts = c.args.self.now.parts.items in
    let texts = part_texts c.args.self.now in
    let part = c.extend_part.new.part in
    let here = text_at (λ p. p.items) parts chain c.index_mut.result.now c.requires.chain c.index_mut.ensures.value in
    let text : part.items ≡ begun libraries (get_or texts chain []) ++ job.text =
    c.in_ok-extend_part.ensures
    ∙ ap (λ (t : List ℕ). begun libraries t ++ c.args.lines.now) (sym here)
    ∙ ap (λ (t : List ℕ). begun libraries (get_or texts chain []) ++ t) (sym text_is) in
    let many : length texts ≡ chains = length-map parts (λ p. p.items) ∙ is.many in
    let less : chain < chains = omega (arith, c.requires.chain, is.many) in
    record {
      number_is = is.number_is;
      count_is = omega (arith, is.count_is, count_more jobs job);
      bytes_are = omega (arith, is.bytes_are, bytes_more jobs job, ap length text_is);
      many = length-set parts chain part ∙ is.many;
      parts_are = λ k h.
          texts_with (λ p. p.items) parts chain part (λ (ts : List (List ℕ)). get_or ts k [] ≡ part_text libraries (jobs_of_chain chains k (jobs ++ job ∷ [])))
          (parts_more chains chain account libraries jobs job texts part.items pays chain_is many less is.parts_are text k h);
      rows_are = c.in_ok-push_chain_row.ensures
          ∙ ap (λ (t : List ℕ). t ++ row (decimal (chain + 1))) is.rows_are
          ∙ ap (λ (t : List ℕ). flat_map (job_row chains) (map (λ j. j.job) jobs) ++ t) (ap (λ (n : ℕ). row (decimal (n + 1))) chain_is ∙ sym (ap (row_by chains job.job) pays))
          ∙ rows_more chains jobs job;
    }
