-- Choices and tests have values in a changed game, where they have in the game.
use Rattle.std.proofs.Common.{◌≡◌, ℕ, ◌+◌, ◌-◌, ◌<◌, ◌≤◌, ◌==◌, Bool, true, false, cond, nat_lt, None, refl, arith}
use Rattle.std.proofs.lemmas.Bool.{both_ways, and_parts}
use Rattle.cv_syntax_trees.specs.declared.head.Head.{Head}
use Rattle.cv_syntax_trees.specs.declared.head.Head.TheVariants.{New, Let, Find, Binder, Key, Call}
use Rattle.cv_syntax_trees.specs.Head.{weight}
use Rattle.cv_syntax_trees.specs.Tree.{Tree, Empty, Node, size}
use Rattle.cv_meaning.specs.Interpretation.{Interpretation, Setting}
use Rattle.cv_meaning.specs.Runs.{Mode}
use Rattle.cv_meaning.specs.Satisfies.{Satisfies}
use Rattle.cv_meaning_laws.specs.adequacy.Typed as meaning
use Rattle.cv_meaning_laws.proofs.adequacy.Sorted.{some_value}
use Rattle.cv_meaning_runs.specs.Replacement as at
use Rattle.cv_meaning_runs.specs.Replacement.{Part, Process, IsReplaced}
use Rattle.cv_meaning.specs.Replaced.{replaced}
use Rattle.cv_meaning_chances.specs.unread.Dropping.{IsDropped, same, gone, kept, in_parallel, in_list, in_find, in_branch, in_later_branch}
use Rattle.cv_meaning.specs.Still.{is_still, head_is_still}
use Rattle.cv_meaning_chances.specs.values.Values.{ConstructHasValues, HasValuesIn, is_tested}
use Rattle.cv_scope_rules.specs.Phrases.{Inputs, is_phrase}
use Rattle.cv_scene.specs.Scenes.{Scene, is_output_at, is_type, part_at}
use Rattle.cv_steps.specs.Changes.{change_at}
use Rattle.cv_steps.specs.Renaming.{renamed, renamed_head}
use Rattle.cv_steps.proofs.Comes.{placed}
use Rattle.cv_steps.proofs.Flat.{terms_still}
use Rattle.cv_steps_laws.proofs.Sorts.{type_declared}
use Rattle.cv_steps_laws.proofs.Unletted.{IsKept}

module _ (g : Setting) (m : Mode) where
  still_head : (h : Head) → head_is_still h ≡ true → ConstructHasValues g m h
  still_head (New x T) e = absurd (both_ways false refl e)
  still_head (Let x T) e = absurd (both_ways false refl e)
  still_head (Binder x T) e = absurd (both_ways false refl e)
  still_head (Find l) e = absurd (both_ways false refl e)
  still_head (Key x) e = absurd (both_ways false refl e)
  still_head (Call x l) e = absurd (both_ways false refl e)
  still_head h e = tt

  pub still_values : (t : Tree) → is_still t ≡ true → HasValuesIn g m t
  unfolding HasValuesIn
  still_values Empty e = tt
  still_values (Node h a b) e =
      let p = and_parts (head_is_still h) _ e in
      let q = and_parts (is_still a) _ p.1 in
      (still_head h p.0, still_values a q.0, still_values b q.1)

  pub values_replaced : (old new : Tree) (place : ℕ) → (HasValuesIn g m old → HasValuesIn g m new) → (part : Part) (p : ℕ) (b c : Tree) → IsReplaced old new place part p b c → HasValuesIn g m b → HasValuesIn g m c
  unfolding HasValuesIn
  values_replaced old new place k part p b c at.here d = k d
  values_replaced old new place k part p b c (at.in_continuation {b = x} {c = y} z) d = (d.0, d.1, values_replaced old new place k Process _ x y z d.2)
  values_replaced old new place k part p b c (at.in_parallel {a = x} {c = y} z) d = (d.0, values_replaced old new place k Process _ x y z d.1, d.2)
  values_replaced old new place k part p b c (at.in_list {a = x} {c = y} z) d = (d.0, values_replaced old new place k Process _ x y z d.1, d.2)
  values_replaced old new place k part p b c (at.in_find {a = x} {c = y} z) d = (d.0, values_replaced old new place k at.Branches _ x y z d.1, d.2)
  values_replaced old new place k part p b c (at.in_branch {b = x} {c = y} z) d = (d.0, (d.1.0, d.1.1, (d.1.2.0, d.1.2.1, (d.1.2.2.0, d.1.2.2.1, values_replaced old new place k Process _ x y z d.1.2.2.2))), d.2)
  values_replaced old new place k part p b c (at.in_later_branch {b = x} {c = y} z) d = (d.0, d.1, values_replaced old new place k at.Branches _ x y z d.2)

  -- a tree in the place of another, wherever
  pub values_put : (new : Tree) → HasValuesIn g m new → (t : Tree) (p : ℕ) → HasValuesIn g m t → HasValuesIn g m (replaced t p new)
  unfolding HasValuesIn replaced
  values_put new k Empty p d = tt
  values_put new k (Node h a b) p d = go (nat_lt p (weight h)) (nat_lt p (weight h + size a)) (values_put new k a (p - weight h) d.1) (values_put new k b (p - (weight h + size a)) d.2)
    where
      go : (v w : Bool) → HasValuesIn g m (replaced a (p - weight h) new) → HasValuesIn g m (replaced b (p - (weight h + size a)) new)
          → HasValuesIn g m (cond v new (cond w (Node h (replaced a (p - weight h) new) b) (Node h a (replaced b (p - (weight h + size a)) new))))
      go true w x y = k
      go false true x y = (d.0, x, d.2)
      go false false x y = (d.0, d.1, y)

  -- a game with what stands at a place changed
  pub values_changed : (s : Scene) (p : ℕ) (change : Tree → Tree) → is_phrase Inputs s.game ≡ true → is_output_at s p ≡ true → (HasValuesIn g m (part_at s.game p) → HasValuesIn g m (change (part_at s.game p))) → HasValuesIn g m s.game → HasValuesIn g m (change_at s.game p change)
  values_changed s p change w o k d = values_replaced (part_at s.game p) (change (part_at s.game p)) p k Process 0 s.game (change_at s.game p change) (placed s.game p change w o) d

  pub values_dropped : (xs : ℕ → Bool) (part : Part) (b c : Tree) → IsDropped xs part b c → HasValuesIn g m b → HasValuesIn g m c
  unfolding HasValuesIn
  values_dropped xs part b c (same e) d = d
  values_dropped xs part b c (gone {b = x} e f o z) d = values_dropped xs Process x c z d.2
  values_dropped xs part b c (kept {b = x} {c = y} e z) d = (d.0, d.1, values_dropped xs Process x y z d.2)
  values_dropped xs part b c (in_parallel {a = a} {b = x} {c = e} {d = y} w z) d = (d.0, values_dropped xs Process a e w d.1, values_dropped xs Process x y z d.2)
  values_dropped xs part b c (in_list {a = a} {b = x} {c = e} {d = y} w z) d = (d.0, values_dropped xs Process a e w d.1, values_dropped xs Process x y z d.2)
  values_dropped xs part b c (in_find {a = a} {b = x} {c = e} {d = y} w z) d = (d.0, values_dropped xs at.Branches a e w d.1, values_dropped xs Process x y z d.2)
  values_dropped xs part b c (in_branch {b = x} {c = y} {more = more} {rest = rest} e f h w z) d =
      (d.0, (d.1.0, d.1.1, (d.1.2.0, d.1.2.1, (d.1.2.2.0, d.1.2.2.1, values_dropped xs Process x y w d.1.2.2.2))), values_dropped xs at.Branches more rest z d.2)
  values_dropped xs part b c (in_later_branch {b = x} {c = y} e z) d = (d.0, d.1, values_dropped xs at.Branches x y z d.2)

  -- what a step that changes terms keeps
  pub values_kept : IsKept (HasValuesIn g m)
  unfolding HasValuesIn
  values_kept = record {
    terms = λ σ t f e. still_values t (terms_still σ t f e);
    children = λ h a b d. (d.1, d.2);
    node = λ h a b c n e d x y. (d.0, x, y);
  }

  -- a variable that gets a name whose values aren't tested

  renamed_head_values : (x y : ℕ) → is_tested m y ≡ false → (h : Head) → ConstructHasValues g m h → ConstructHasValues g m (renamed_head x y h)
  renamed_head_values x y u (Binder z T) d = go (z == x)
    where
      go : (v : Bool) → ConstructHasValues g m (Binder (cond v y z) T)
      go true e = absurd (both_ways (is_tested m y) u e)
      go false e = d e
  renamed_head_values x y u h d = d

  pub values_renamed : (x y : ℕ) → is_tested m y ≡ false → (t : Tree) → HasValuesIn g m t → HasValuesIn g m (renamed x y t)
  unfolding HasValuesIn renamed
  values_renamed x y u Empty d = tt
  values_renamed x y u (Node h a b) d = (renamed_head_values x y u h d.0, values_renamed x y u a d.1, values_renamed x y u b d.2)

-- a type has a value
pub type_value : (s : Scene) (i : Interpretation) → Satisfies s.declarations i → (T : ℕ) → is_type s T ≡ true → 0 < i.type_size T
type_value s i sat T e =
    let v : 1 ≤ i.type_size T = some_value (record { declarations = s.declarations; variables = λ x. None; oracles = λ l. None }) i sat (meaning.OfType T) (type_declared s.declarations T e) in
    omega arith
