-- What a table of classes keeps.
use Rattle.std.specs.Prelude.{◌≡◌, ℕ, ◌<◌, true, List, length}
use Rattle.value_ops.specs.declared.values.ClassId.{ClassId}
use Rattle.value_ops.specs.declared.values.SetId.{SetId}
use Rattle.record_classes.specs.Classes.{Field, Classes, is_same_set, number_of, with_class, with_set, class_of, set_of}

-- The class that was added is found at its number; the classes before it stay, and so do the sets.
pub record ClassesAreFound : Type 0 where
  pub added : (t : Classes) (name : List ℕ) (fields : List Field) (c : ClassId) → c.0 ≡ length t.classes → class_of (with_class t name fields) c ≡ record { name = name; fields = fields }
  pub kept : (t : Classes) (name : List ℕ) (fields : List Field) (c : ClassId) → c.0 < length t.classes → class_of (with_class t name fields) c ≡ class_of t c
  pub sets : (t : Classes) (name : List ℕ) (fields : List Field) → (with_class t name fields).sets ≡ t.sets
  pub by_set : (t : Classes) (set : List ClassId) → (with_set t set).classes ≡ t.classes

-- Sets have one number exactly where they are equal; the set that was added is at its number, and the sets before it stay.
pub record SetsAreNumbered : Type 0 where
  pub equal : (t : Classes) (a b : List ClassId) → is_same_set a b ≡ true → number_of t.sets a ≡ number_of t.sets b
  pub only_equal : (t : Classes) (a b : List ClassId) → number_of t.sets a < length t.sets → number_of t.sets a ≡ number_of t.sets b → is_same_set a b ≡ true
  pub added : (t : Classes) (a : List ClassId) (s : SetId) → s.0 ≡ number_of t.sets a → is_same_set (set_of (with_set t a) s) a ≡ true
  pub kept : (t : Classes) (a : List ClassId) (s : SetId) → s.0 < length t.sets → set_of (with_set t a) s ≡ set_of t s
  pub numbers_kept : (t : Classes) (a b : List ClassId) → number_of t.sets a < length t.sets → number_of (with_set t b).sets a ≡ number_of t.sets a
