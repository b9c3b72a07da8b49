-- A tree that doesn't bind an index: neither do its parts, nor does it with a part changed to one that doesn't, or with another name.
use Rattle.std.proofs.Common.{◌≡◌, ℕ, ◌+◌, ◌-◌, ◌==◌, Bool, true, false, cond, nat_lt, List, [], ◌∷◌, map, Option, Some, None, is_some, refl, ap, subst}
use Rattle.std.proofs.lemmas.Bool.{both_ways}
use Rattle.cv_syntax_trees.specs.declared.head.Head.{Head}
use Rattle.cv_syntax_trees.specs.declared.head.Head.TheVariants.{Find, Leaf, Let, Repl}
use Rattle.cv_syntax_trees.specs.Head.{weight}
use Rattle.cv_syntax_trees.specs.Tree.{Tree, Empty, Node, size, subtree}
use Rattle.cv_meaning.specs.Replaced.{replaced}
use Rattle.cv_meaning.specs.Still.{defines}
use Rattle.cv_syntax_trees.specs.sites.Sites.{first_index, first_of, index_here}
use Rattle.cv_scope_rules.specs.Phrases.{Phrase, Inputs, Term, parts, is_phrase}
use Rattle.cv_scene.specs.Pruning.{Part, Pruned, pruned}
use Rattle.cv_scene.specs.Scenes.{Scene, head_reads, or_empty, part_at}
use Rattle.cv_scene.specs.Terms.{has_index}
use Rattle.cv_scene.specs.lines.Given.{given_for, or_node, term_for, with_given}
use Rattle.cv_scene.specs.Sights.{at_cell}
use Rattle.cv_steps.specs.Changes.{change_at, only, without}
use Rattle.cv_steps.specs.Renaming.{renamed, renamed_head}
use Rattle.cv_steps.specs.Unletting.{Assignment, assigned_in, only_assignment, with_term, without_assignment}
use Rattle.cv_steps.proofs.Flat.{is_of_terms, open_phrase, rows_still, AreStill, IfStill}
use Rattle.cv_steps.proofs.Pruned.{left_keeps}
use Rattle.cv_steps_laws.proofs.Unletted.{only_site}

neither : {A : Type 0} (o u v : Option A) → is_some (first_of o (first_of u v)) ≡ false → (is_some o ≡ false) × (is_some u ≡ false) × (is_some v ≡ false)
neither (Some a) u v e = absurd (both_ways true e refl)
neither None (Some a) v e = absurd (both_ways true e refl)
neither None None v e = (refl, refl, e)

none : {A : Type 0} (o u v : Option A) → is_some o ≡ false → is_some u ≡ false → is_some v ≡ false → is_some (first_of o (first_of u v)) ≡ false
none (Some a) u v e f g = e
none None (Some a) v e f g = f
none None None v e f g = g

module _ (i : ℕ) where
  -- the tree doesn't bind the index
  abbrev pub Lacks : Tree → Type 0
  Lacks t = has_index t i ≡ false

  pub lacking_parts : (h : Head) (a b : Tree) → Lacks (Node h a b) → (is_some (index_here i h) ≡ false) × Lacks a × Lacks b
  unfolding first_index
  lacking_parts h a b e = neither (index_here i h) (first_index i a) (first_index i b) e

  pub lacking_node : (h : Head) (a b : Tree) → is_some (index_here i h) ≡ false → Lacks a → Lacks b → Lacks (Node h a b)
  unfolding first_index
  lacking_node h a b e f g = none (index_here i h) (first_index i a) (first_index i b) e f g

  pub lacking_empty : Lacks Empty
  unfolding first_index
  lacking_empty = refl

  lacking_subtree : (t : Tree) (p : ℕ) → Lacks t → Lacks (or_empty (subtree t p))
  unfolding subtree
  lacking_subtree Empty p e = lacking_empty
  lacking_subtree (Node h a b) p e =
      let q = lacking_parts h a b e in
      go (nat_lt p (weight h)) (nat_lt p (weight h + size a)) (lacking_subtree a (p - weight h) q.1) (lacking_subtree b (p - (weight h + size a)) q.2)
    where
      go : (v w : Bool) → Lacks (or_empty (subtree a (p - weight h))) → Lacks (or_empty (subtree b (p - (weight h + size a))))
          → Lacks (or_empty (cond v (Some (Node h a b)) (cond w (subtree a (p - weight h)) (subtree b (p - (weight h + size a))))))
      go true w f g = e
      go false true f g = f
      go false false f g = g

  pub lacking_part : (t : Tree) (p : ℕ) → Lacks t → Lacks (part_at t p)
  lacking_part t p e = lacking_subtree t p e

  pub lacking_replaced : (t : Tree) (p : ℕ) (new : Tree) → Lacks t → Lacks new → Lacks (replaced t p new)
  unfolding replaced
  lacking_replaced Empty p new e f = lacking_empty
  lacking_replaced (Node h a b) p new e f =
      let q = lacking_parts h a b e in
      go (nat_lt p (weight h)) (nat_lt p (weight h + size a)) (lacking_replaced a (p - weight h) new q.1 f) (lacking_replaced b (p - (weight h + size a)) new q.2 f)
    where
      go : (v w : Bool) → Lacks (replaced a (p - weight h) new) → Lacks (replaced b (p - (weight h + size a)) new)
          → Lacks (cond v new (cond w (Node h (replaced a (p - weight h) new) b) (Node h a (replaced b (p - (weight h + size a)) new))))
      go true w k l = f
      go false true k l = let q = lacking_parts h a b e in lacking_node h (replaced a (p - weight h) new) b q.0 k q.2
      go false false k l = let q = lacking_parts h a b e in lacking_node h a (replaced b (p - (weight h + size a)) new) q.0 q.1 l

  -- a game with what stands at a place changed
  pub lacking_changed : (s : Scene) (p : ℕ) (change : Tree → Tree) → Lacks s.game → (Lacks (part_at s.game p) → Lacks (change (part_at s.game p))) → Lacks (change_at s.game p change)
  lacking_changed s p change d k = lacking_replaced s.game p (change (part_at s.game p)) d (k (lacking_part s.game p d))

  pub lacking_without : (xs : ℕ → Bool) (t : Tree) → Lacks t → Lacks (without xs t)
  unfolding without
  lacking_without xs Empty e = lacking_empty
  lacking_without xs (Node h a b) e =
      let q = lacking_parts h a b e in
      go (defines xs h) (lacking_without xs a q.1) (lacking_without xs b q.2)
    where
      go : (v : Bool) → Lacks (without xs a) → Lacks (without xs b) → Lacks (cond v (without xs b) (Node h (without xs a) (without xs b)))
      go true k l = l
      go false k l = lacking_node h (without xs a) (without xs b) (lacking_parts h a b e).0 k l

  pub lacking_left : (p : ℕ) (t : Tree) (part : Part) (b : Pruned) → pruned p t part ≡ Some b → Lacks t → Lacks b.left
  lacking_left p t part b e d =
      left_keeps Lacks
      (λ h x y k. let q = lacking_parts h x y k in (q.1, q.2))
      (λ h x y z k l. let q = lacking_parts h x y k in lacking_node h x z q.0 q.1 l)
      (λ l x y z k n. lacking_node (Find l) z y refl n (lacking_parts (Find l) x y k).2)
      p t part b e d

  -- terms bind none

  no_replication : (σ : Phrase) (j n : ℕ) (q : Phrase × Phrase) → is_of_terms σ ≡ true → parts σ (Repl j n) ≡ Some q → ⊥
  no_replication Inputs j n q f e = both_ways false refl f
  no_replication σ j n q f e = cc

  flat_head : (σ : Phrase) (h : Head) (q : Phrase × Phrase) → is_of_terms σ ≡ true → parts σ h ≡ Some q → is_some (index_here i h) ≡ false
  flat_head σ (Repl j n) q f e = absurd (no_replication σ j n q f e)
  flat_head σ h q f e = refl

  lacking_terms : (σ : Phrase) (t : Tree) → is_of_terms σ ≡ true → is_phrase σ t ≡ true → Lacks t
  lacking_terms σ Empty f e = lacking_empty
  lacking_terms σ (Node h a b) f e =
      let o = open_phrase σ h a b e in
      let r : AreStill h o.0 = subst (IfStill h) o.1 (rows_still σ h f) in
      lacking_node h a b (flat_head σ h o.0 f o.1) (lacking_terms o.0.0 a r.first o.2) (lacking_terms o.0.1 b r.second o.3)

  pub lacking_term : (t : Tree) → is_phrase Term t ≡ true → Lacks t
  lacking_term t e = lacking_terms Term t refl e

  -- a term with others for names, and in place of the reads of a variable

  lacking_for : (names : List ℕ) (terms : Tree) (y : ℕ) (t : Tree) → Lacks terms → term_for names terms y ≡ Some t → Lacks t
  lacking_for [] terms y t d e = absurd (cc)
  lacking_for (z ∷ names) Empty y t d e = absurd (cc)
  lacking_for (z ∷ names) (Node h a b) y t d e =
      let q = lacking_parts h a b d in
      go (z == y) e q.1 (lacking_for names b y t q.2)
    where
      go : (v : Bool) → cond v (Some a) (term_for names b y) ≡ Some t → Lacks a → (term_for names b y ≡ Some t → Lacks t) → Lacks t
      go true e k l = subst Lacks (let s : a ≡ t = cc in s) k
      go false e k l = l e

  lacking_given : (names : List ℕ) (terms t : Tree) → Lacks terms → Lacks t → Lacks (with_given names terms t)
  unfolding with_given
  lacking_given names terms Empty d e = lacking_empty
  lacking_given names terms (Node h a b) d e =
      let q = lacking_parts h a b e in
      go (given_for names terms h) refl q.0 (lacking_given names terms a d q.1) (lacking_given names terms b d q.2)
    where
      leaf : (h : Head) (t : Tree) → given_for names terms h ≡ Some t → Lacks t
      leaf (Leaf y) t f = lacking_for names terms y t d f
      leaf h t f = absurd (cc)

      go : (o : Option Tree) → given_for names terms h ≡ o → is_some (index_here i h) ≡ false → Lacks (with_given names terms a) → Lacks (with_given names terms b) → Lacks (or_node o h (with_given names terms a) (with_given names terms b))
      go None f n k l = lacking_node h (with_given names terms a) (with_given names terms b) n k l
      go (Some t) f n k l = leaf h t f

  lacking_put : (x : ℕ) (c : Assignment) (t : Tree) → Lacks c.term → Lacks t → Lacks (with_term x c t)
  unfolding with_term
  lacking_put x c Empty d e = lacking_empty
  lacking_put x c (Node h a b) d e =
      let q = lacking_parts h a b e in
      go (head_reads x h) (lacking_given (map (λ (r : ℕ × ℕ). r.0) c.behind.replications) a c.term q.1 d) (lacking_put x c a d q.1) (lacking_put x c b d q.2)
    where
      go : (v : Bool) → Lacks (at_cell (Node h a b) c.behind c.term) → Lacks (with_term x c a) → Lacks (with_term x c b) → Lacks (cond v (at_cell (Node h a b) c.behind c.term) (Node h (with_term x c a) (with_term x c b)))
      go true k l n = k
      go false k l n = lacking_node h (with_term x c a) (with_term x c b) (lacking_parts h a b e).0 l n

  lacking_assigned : (t m : Tree) → assigned_in t ≡ Some m → Lacks t → Lacks m
  lacking_assigned (Node (Let x T) a b) m e d = subst Lacks (let s : a ≡ m = cc in s) (lacking_parts (Let x T) a b d).1
  lacking_assigned (Node h a b) m e d = absurd (cc)
  lacking_assigned Empty m e d = absurd (cc)

  pub lacking_unletted : (x : ℕ) (c : Assignment) (game : Tree) → only_assignment game x ≡ Some c → Lacks game → Lacks (without_assignment x c game)
  lacking_unletted x c game e d =
      let s = only_site game x c e in
      lacking_put x c (without (only x) game) (lacking_assigned (part_at game s.0) c.term s.2 (lacking_part game s.0 d)) (lacking_without (only x) game d)

-- an index other than the new name

renamed_index : (i x y : ℕ) (h : Head) → (y == i) ≡ false → is_some (index_here i h) ≡ false → is_some (index_here i (renamed_head x y h)) ≡ false
renamed_index i x y (Repl j n) d e = go (j == x) e
  where
    go : (v : Bool) → is_some (cond (j == i) (Some n) None) ≡ false → is_some (cond (cond v y j == i) (Some n) None) ≡ false
    go true e = ap (λ w. is_some (cond w (Some n) None)) d
    go false e = e
renamed_index i x y h d e = refl

pub lacking_renamed : (i x y : ℕ) (t : Tree) → (y == i) ≡ false → Lacks i t → Lacks i (renamed x y t)
unfolding renamed
lacking_renamed i x y Empty d e = lacking_empty i
lacking_renamed i x y (Node h a b) d e =
    let q = lacking_parts i h a b e in
    lacking_node i (renamed_head x y h) (renamed x y a) (renamed x y b) (renamed_index i x y h d q.0) (lacking_renamed i x y a d q.1) (lacking_renamed i x y b d q.2)

-- what binds no index that another tree lacks, binds none that it has not
pub bound_before : (i : ℕ) (t u : Tree) → (Lacks i t → Lacks i u) → has_index u i ≡ true → has_index t i ≡ true
bound_before i t u k h = go (has_index t i) refl
  where
    go : (b : Bool) → has_index t i ≡ b → b ≡ true
    go true f = refl
    go false f = absurd (both_ways (has_index u i) (k f) h)
