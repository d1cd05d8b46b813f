-- When two libraries and two jobs are equal, and that this is so exactly where they are the same: these laws stand here and not in
-- proofs/, since `impl Eq for Job` cites them.
use Rattle.std.specs.Prelude.{◌≡◌, ◌==◌, ◌↔◌, Bool, true, ◌&&◌, nat_eq, Option, Some, None, refl}
use Rattle.std.specs.Cmp.Lexicographic.{pointwise, pointwise_decides}
use Rattle.std.specs.Option.{option_eq}
use Rattle.std.specs.Str.{bytes_eq}
use Rattle.deck_reader.specs.contracts.batch.FlawPartialEq.TheImpl as flaws
use Rattle.deck_reader.specs.declared.batch.Flaw.{Flaw}
use Rattle.deck_reader.specs.LibraryView.{LibraryView}
use Rattle.deck_reader.specs.JobView.{JobView}
use Rattle.std.specs.Bool.{Decides}
use Rattle.std.proofs.Common.{ap, subst}
use Rattle.std.proofs.lemmas.Bool.{false≢true}
use Rattle.std.proofs.lemmas.Bool.Decides.{Decides-eqb, Decides-and, Decides-like}
use Rattle.std.proofs.lemmas.Slice.Eq.{bytes_eq-Decides}
use denote.Enum.Bare.{same_true, true_same}
use Rattle.deck_reader.specs.contracts.batch.Flaw.{the_type}

-- what `==` answers of two flaws
abbrev pub flaw_eq : Flaw → Flaw → Bool
flaw_eq = (flaws.ghosts).eq

-- what `==` answers of two libraries
unfoldable pub library_eq : LibraryView → LibraryView → Bool
library_eq a b = bytes_eq a.name b.name && pointwise bytes_eq a.cards b.cards

-- what `==` answers of two jobs: whether each part of the one is that of the other
unfoldable pub job_eq : JobView → JobView → Bool
job_eq a b =
    (a.number == b.number)
    && bytes_eq a.name b.name
    && bytes_eq a.account_name b.account_name
    && option_eq nat_eq a.account b.account
    && option_eq library_eq a.library b.library
    && pointwise bytes_eq a.deck b.deck
    && pointwise bytes_eq a.data_cards b.data_cards
    && (a.steps == b.steps)
    && (a.lines == b.lines)
    && (a.cards == b.cards)
    && option_eq flaw_eq a.flaw b.flaw

-- two libraries are equal exactly where they are the same
abbrev pub EqualLibrariesAreSame : Type 0
EqualLibrariesAreSame = (a b : LibraryView) → (library_eq a b ≡ true) ↔ (a ≡ b)

-- two jobs are equal exactly where they are the same
abbrev pub EqualJobsAreSame : Type 0
EqualJobsAreSame = (a b : JobView) → (job_eq a b ≡ true) ↔ (a ≡ b)

module _ {A : Type 0} {E : A → A → Bool} (decides : (x y : A) → Decides (E x y) (x ≡ y)) where
  option_eq-true : (x y : Option A) → option_eq E x y ≡ true → x ≡ y
  option_eq-true None None h = refl
  option_eq-true None (Some y) h = absurd (false≢true h)
  option_eq-true (Some x) None h = absurd (false≢true h)
  option_eq-true (Some x) (Some y) h = ap Some ((decides x y).0 h)

  option_eq-itself : (x : Option A) → option_eq E x x ≡ true
  option_eq-itself None = refl
  option_eq-itself (Some x) = (decides x x).1 refl

  option_eq-Decides : (x y : Option A) → Decides (option_eq E x y) (x ≡ y)
  option_eq-Decides x y = (option_eq-true x y, λ e. subst (λ z. option_eq E x z ≡ true) e (option_eq-itself x))

flaw_eq-Decides : (a b : Flaw) → Decides (flaw_eq a b) (a ≡ b)
flaw_eq-Decides a b = (same_true the_type tt a b, true_same the_type a b)

infixl 35 ◌also◌
◌also◌ : {x y : Bool} {P Q : Type 0} → Decides x P → Decides y Q → Decides (x && y) (P × Q)
p also q = Decides-and _ _ p q

pub equal_libraries_are_same : EqualLibrariesAreSame
unfolding library_eq
equal_libraries_are_same a b =
    Decides-like (library_eq a b)
    (λ (name, cards). λ i. record { name = name i; cards = cards i })
    (λ e. (λ i. (e i).name, λ i. (e i).cards))
    (bytes_eq-Decides a.name b.name also pointwise_decides bytes_eq-Decides a.cards b.cards)

pub equal_jobs_are_same : EqualJobsAreSame
unfolding job_eq
equal_jobs_are_same a b =
    Decides-like (job_eq a b)
    (λ ((((((((((number, name), account_name), account), library), deck), data_cards), steps), lines), cards), flaw). λ i. record {
      number = number i;
      name = name i;
      account_name = account_name i;
      account = account i;
      library = library i;
      deck = deck i;
      data_cards = data_cards i;
      steps = steps i;
      lines = lines i;
      cards = cards i;
      flaw = flaw i;
    })
    (λ e. ((((((((((λ i. (e i).number, λ i. (e i).name), λ i. (e i).account_name), λ i. (e i).account), λ i. (e i).library), λ i. (e i).deck), λ i. (e i).data_cards), λ i. (e i).steps), λ i. (e i).lines), λ i. (e i).cards), λ i. (e i).flaw))
    (Decides-eqb a.number b.number
    also bytes_eq-Decides a.name b.name
    also bytes_eq-Decides a.account_name b.account_name
    also option_eq-Decides Decides-eqb a.account b.account
    also option_eq-Decides equal_libraries_are_same a.library b.library
    also pointwise_decides bytes_eq-Decides a.deck b.deck
    also pointwise_decides bytes_eq-Decides a.data_cards b.data_cards
    also Decides-eqb a.steps b.steps
    also Decides-eqb a.lines b.lines
    also Decides-eqb a.cards b.cards
    also option_eq-Decides flaw_eq-Decides a.flaw b.flaw)
