-- What follows of a row by which an assignment goes, and what the next game has of the game.
use Rattle.std.proofs.Common.{◌≡◌, ℕ, ◌||◌, Bool, true, false, cond, not, List, [], ◌∷◌, Option, Some, None, option_map, refl, sym, ap, ap₂, subst, ◌∙◌}
use Rattle.std.proofs.lemmas.Bool.{both_ways, and_parts, not-true, or_parts}
use Rattle.cv_syntax_trees.specs.declared.head.Head.{Head}
use Rattle.cv_syntax_trees.specs.declared.head.Head.TheVariants.{In, Branch, Leaf, Read, Cons, Binder, Name}
use Rattle.cv_syntax_trees.specs.Tree.{Tree, Empty, Node}
use Rattle.cv_meaning.specs.Still.{defines}
use Rattle.cv_scope_rules.specs.Phrases.{Phrase, Nil, Inputs, Body, Arm, Guards, Pattern, Indices, Binders, OneCell, Term, parts, both_are, is_phrase}
use Rattle.cv_scope_rules.specs.Behind.{sites_of}
use Rattle.cv_scope_rules.specs.Context.{Context}
use Rattle.cv_scene.specs.Scenes.{Scene, head_reads, is_queried, part_at}
use Rattle.cv_scene.specs.Sights.{at_cell}
use Rattle.cv_steps.specs.Steps.{Cost, Leads, Zero}
use Rattle.cv_steps.specs.Changes.{only, without}
use Rattle.cv_steps.specs.Unletting.{Assignment, assigned_in, assignment_by, is_listed, only_assignment, with_term, without_assignment}
use Rattle.cv_steps.specs.Rows.{unlet_row, unlet_row_by}
use Rattle.cv_steps.proofs.Flat.{Opened, flat_dropped, is_flat, is_of_terms, open_phrase}
use Rattle.cv_steps.proofs.Rows.{leads_same, unless_leads}
use Rattle.cv_steps_laws.proofs.Unnamed.{dropped_phrase}

-- the game without the only definition of the variable, of which no query and no `defined` list speaks
pub record LeadsUnletted (s : Scene) (x : ℕ) (next : Tree) : Type 0 where
  pub assignment : Assignment
  pub defined : only_assignment s.game x ≡ Some assignment
  pub unqueried : is_queried s x ≡ false
  pub unlisted : is_listed x s.game ≡ false
  pub leads : without_assignment x assignment s.game ≡ next

pub unlet_leads : (s : Scene) (x : ℕ) (next : Tree) (cost : Cost) → unlet_row s x ≡ Leads next cost → LeadsUnletted s x next
unlet_leads s x next cost e = go (only_assignment s.game x) refl e
  where
    go : (o : Option Assignment) → only_assignment s.game x ≡ o → unlet_row_by s x o ≡ Leads next cost → LeadsUnletted s x next
    go None f e = absurd (cc)
    go (Some d) f e =
        let r = unless_leads (not (is_queried s x || is_listed x s.game)) 2 0 _ next cost e in
        let q = or_parts (is_queried s x) _ (not-true _ r.0) in
        record { assignment = d; defined = f; unqueried = q.0; unlisted = q.1; leads = leads_same _ next Zero cost r.1 }

-- the only site, and what is assigned there

abbrev assignment : ℕ × Context → Tree → Assignment
assignment s m = record { term = m; behind = s.1 }

pub only_site : (game : Tree) (x : ℕ) (d : Assignment) → only_assignment game x ≡ Some d → (p : ℕ) × (sites_of game x ≡ (p, d.behind) ∷ []) × (assigned_in (part_at game p) ≡ Some d.term)
only_site game x d e = go (sites_of game x) refl e
  where
    term : (s : ℕ × Context) (o : Option Tree) → sites_of game x ≡ s ∷ [] → assigned_in (part_at game s.0) ≡ o → option_map (λ m. assignment s m) o ≡ Some d
        → (p : ℕ) × (sites_of game x ≡ (p, d.behind) ∷ []) × (assigned_in (part_at game p) ≡ Some d.term)
    term s None f g e = absurd (cc)
    term s (Some m) f g e =
        let same : assignment s m ≡ d = cc in
        (s.0, f ∙ ap (λ (c : Assignment). (let z : ℕ × Context = (s.0, c.behind) in z) ∷ []) same, g ∙ ap (λ (c : Assignment). Some c.term) same)

    go : (ss : List (ℕ × Context)) → sites_of game x ≡ ss → assignment_by game ss ≡ Some d → (p : ℕ) × (sites_of game x ≡ (p, d.behind) ∷ []) × (assigned_in (part_at game p) ≡ Some d.term)
    go [] f e = absurd (cc)
    go (s ∷ []) f e = term s (assigned_in (part_at game s.0)) f refl e
    go (s ∷ (r ∷ ss)) f e = absurd (cc)

-- phrases that read nothing

abbrev pub is_bare : Phrase → Bool
is_bare Nil = true
is_bare Pattern = true
is_bare Indices = true
is_bare Binders = true
is_bare σ = false

pub put_bare : (x : ℕ) (d : Assignment) (σ : Phrase) (t : Tree) → is_bare σ ≡ true → is_phrase σ t ≡ true → with_term x d t ≡ t
unfolding with_term is_phrase
put_bare x d σ Empty f e = refl
put_bare x d Pattern (Node Cons a b) f e = let p = and_parts (is_phrase Indices a) _ e in ap₂ (Node Cons) (put_bare x d Indices a refl p.0) (put_bare x d Binders b refl p.1)
put_bare x d Indices (Node (Name i) a b) f e = let p = and_parts (is_phrase Nil a) _ e in ap₂ (Node (Name i)) (put_bare x d Nil a refl p.0) (put_bare x d Indices b refl p.1)
put_bare x d Binders (Node (Binder y T) a b) f e = let p = and_parts (is_phrase Nil a) _ e in ap₂ (Node (Binder y T)) (put_bare x d Nil a refl p.0) (put_bare x d Binders b refl p.1)
put_bare x d Nil (Node h a b) f e = absurd (both_ways false refl e)
put_bare x d Pattern (Node h a b) f e = absurd (both_ways false refl e)
put_bare x d Indices (Node h a b) f e = absurd (both_ways false refl e)
put_bare x d Binders (Node h a b) f e = absurd (both_ways false refl e)
put_bare x d σ (Node h a b) f e = absurd (both_ways false refl f)

-- What holds of each term, and of a node with other children where it holds of these, holds of the next game where it holds of the
-- game. The first child of an input and of a branch stays.

abbrev pub has_names : Head → Bool
has_names (In c) = true
has_names Branch = true
has_names h = false

unread_head : (x : ℕ) (σ : Phrase) (h : Head) (q : Phrase × Phrase) → parts σ h ≡ Some q → is_of_terms σ ≡ false → head_reads x h ≡ false
unread_head x Term (Leaf y) q e f = absurd (both_ways true f refl)
unread_head x OneCell (Leaf y) q e f = absurd (both_ways true f refl)
unread_head x Term (Read y) q e f = absurd (both_ways true f refl)
unread_head x OneCell (Read y) q e f = absurd (both_ways true f refl)
unread_head x σ (Leaf y) q e f = absurd (cc)
unread_head x σ (Read y) q e f = absurd (cc)
unread_head x σ h q e f = refl

names_bare : (σ : Phrase) (h : Head) (q : Phrase × Phrase) → parts σ h ≡ Some q → has_names h ≡ true → is_bare q.0 ≡ true
names_bare Inputs (In c) q e f = let i : (let p : Phrase × Phrase = (Pattern, Body) in p) ≡ q = cc in ap (λ (p : Phrase × Phrase). is_bare p.0) (sym i)
names_bare Arm Branch q e f = let i : (let p : Phrase × Phrase = (Binders, Guards) in p) ≡ q = cc in ap (λ (p : Phrase × Phrase). is_bare p.0) (sym i)
names_bare σ (In c) q e f = absurd (cc)
names_bare σ Branch q e f = absurd (cc)
names_bare σ h q e f = absurd (both_ways false refl f)

bare_flat : (σ : Phrase) → is_bare σ ≡ true → is_flat σ ≡ true
bare_flat Nil e = refl
bare_flat Pattern e = refl
bare_flat Indices e = refl
bare_flat Binders e = refl
bare_flat σ e = absurd (both_ways false refl e)

pub record IsKept (P : Tree → Type 0) : Type 0 where
  pub terms : (σ : Phrase) (t : Tree) → is_of_terms σ ≡ true → is_phrase σ t ≡ true → P t
  pub children : (h : Head) (a b : Tree) → P (Node h a b) → P a × P b
  pub node : (h : Head) (a b c e : Tree) → (has_names h ≡ true → a ≡ c) → P (Node h a b) → P c → P e → P (Node h c e)

module _ (P : Tree → Type 0) (k : IsKept P) where
  without_kept : (xs : ℕ → Bool) (σ : Phrase) (t : Tree) → is_phrase σ t ≡ true → P t → P (without xs t)
  unfolding without
  without_kept xs σ Empty e p = p
  without_kept xs σ (Node h a b) e p =
      let o = open_phrase σ h a b e in
      let q = k.children h a b p in
      go (defines xs h) o (without_kept xs o.0.0 a o.2 q.0) (without_kept xs o.0.1 b o.3 q.1)
    where
      go : (v : Bool) → Opened σ h a b → P (without xs a) → P (without xs b) → P (cond v (without xs b) (Node h (without xs a) (without xs b)))
      go true o y z = z
      go false o y z = k.node h a b (without xs a) (without xs b) (λ n. sym (flat_dropped xs o.0.0 a (bare_flat o.0.0 (names_bare σ h o.0 o.1 n)) o.2)) p y z

  put_kept : (x : ℕ) (d : Assignment) (σ : Phrase) (t : Tree) → is_phrase σ t ≡ true → is_phrase σ (with_term x d t) ≡ true → P t → P (with_term x d t)
  unfolding with_term is_phrase
  put_kept x d σ Empty e f p = p
  put_kept x d σ (Node h a b) e f p =
      let o = open_phrase σ h a b e in
      let q = k.children h a b p in
      go (is_of_terms σ) refl o (λ g. put_kept x d o.0.0 a o.2 g q.0) (λ g. put_kept x d o.0.1 b o.3 g q.1)
    where
      c : Tree
      c = with_term x d a

      n : Tree
      n = with_term x d b

      go : (v : Bool) → is_of_terms σ ≡ v → (o : Opened σ h a b) → (is_phrase o.0.0 c ≡ true → P c) → (is_phrase o.0.1 n ≡ true → P n) → P (cond (head_reads x h) (at_cell (Node h a b) d.behind d.term) (Node h c n))
      go true v o y z = k.terms σ _ v f
      go false v o y z =
          let u : head_reads x h ≡ false = unread_head x σ h o.0 o.1 v in
          let w : is_phrase σ (Node h c n) ≡ true = ap (λ v. is_phrase σ (cond v (at_cell (Node h a b) d.behind d.term) (Node h c n))) (sym u) ∙ f in
          let r = and_parts (is_phrase o.0.0 c) _ (ap (λ s. both_are s (λ τ. is_phrase τ c) (λ ρ. is_phrase ρ n)) (sym o.1) ∙ w) in
          subst (λ v. P (cond v (at_cell (Node h a b) d.behind d.term) (Node h c n))) (sym u)
          (k.node h a b c n (λ m. sym (put_bare x d o.0.0 a (names_bare σ h o.0 o.1 m) o.2)) p (y r.0) (z r.1))

  pub unletted_kept : (x : ℕ) (d : Assignment) (game : Tree) → is_phrase Inputs game ≡ true → is_phrase Inputs (without_assignment x d game) ≡ true → P game → P (without_assignment x d game)
  unletted_kept x d game e f p = put_kept x d Inputs (without (only x) game) (dropped_phrase (only x) Inputs game e) f (without_kept (only x) Inputs game e p)
