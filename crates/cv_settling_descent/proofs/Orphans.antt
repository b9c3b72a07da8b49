-- A game that passes the test of games reads no variable without a site.
use Rattle.std.proofs.Common.{◌≡◌, ℕ, ◌==◌, ◌||◌, ◌&&◌, ◌⊎◌, inl, inr, Bool, true, false, cond, not, List, [], ◌∷◌, Some, None, is_some, refl, sym, ap, ap₂, ◌∙◌, eqb-true}
use Rattle.std.proofs.lemmas.Bool.{both_ways, and_parts, or_parts}
use Rattle.std.proofs.lemmas.List.Folds.{list_any-append}
use Rattle.cv_syntax_trees.specs.declared.head.Head.{Head}
use Rattle.cv_syntax_trees.specs.declared.head.Head.TheVariants.{Branch, Call, Cons, Key, Leaf, Read, Repl}
use Rattle.cv_syntax_trees.specs.Declarations.{Declaration}
use Rattle.cv_syntax_trees.specs.Tree.{Tree, Empty, Node, head_reads_only, reads_only}
use Rattle.cv_syntax_trees.specs.sites.Sites.{index_here}
use Rattle.cv_meaning.specs.Interpretation.{Setting, is_constant_of}
use Rattle.cv_meaning.specs.Side.{no_side}
use Rattle.cv_meaning_chances.specs.unread.Dropping.{reads_none}
use Rattle.cv_scope_rules.specs.Context.{Context, replications_below}
use Rattle.cv_scope_rules.specs.Made.{made_by}
use Rattle.cv_scope_rules.specs.Phrases.{Arm, Binders, Cells, Guards, Inputs, IsWellFormed, OneCell, Phrase, Term, both_are, is_phrase, oracle_parts, parts}
use Rattle.cv_scope_rules.specs.Rules.{InReach, is_index}
use Rattle.cv_scope_rules.specs.Scope.{is_untyped_here, is_untyped_in, is_variable}
use Rattle.cv_scope_rules.specs.Sites.{Variable}
use Rattle.cv_scope_rules.proofs.Apart.{first_replications, second_replications}
use Rattle.cv_scope_runs.proofs.FactsRuns.{well_game}
use Rattle.cv_scope_runs.proofs.Games.{Game, has_parts, new_index, stands_asked, stands_phrase, stands_variable}
use Rattle.cv_scope_runs.proofs.Plain.{game_context}
use Rattle.cv_scope_runs.proofs.Rows.{position_of}
use Rattle.cv_scope_runs.proofs.Standing.{Stands, in_first, in_second, root}
use Rattle.cv_scene.specs.Instances.{is_read_of}
use Rattle.cv_scene.specs.Scenes.{head_reads}
use Rattle.cv_scene.specs.Sights.{variable_of}
use Rattle.cv_scene.specs.Terms.{Names, has_index, head_is_there, is_there}
use Rattle.cv_steps.specs.Changes.{only}
use Rattle.cv_steps.specs.Unletting.{has_cell_of, is_listed}
use Rattle.cv_steps.proofs.Flat.{open_phrase}
use Rattle.cv_steps_laws.proofs.Indices.{Lacks, lacking_empty, lacking_node, lacking_parts}
use Rattle.cv_steps_derivations.proofs.unletting.Lists.{adds_none, unlisted}
use Rattle.cv_steps_derivations.proofs.unletting.Reach.{first_reach, read_variable, second_reach, unread_head}

-- an interpretation for the laws of scope, which don't ask for any
abbrev pub any : List Declaration → Setting
any ds = record { interpretation = record { type_size = λ T. 0; parameter_value = λ n. 0; table = λ f vs. 0; choices = 0 }; is_constant = is_constant_of ds; side = no_side }

pub scoped_game : (ds : List Declaration) (game : Tree) → IsWellFormed ds game → Game (any ds) (is_variable game) game
scoped_game ds game w = well_game ds (any ds) game refl (game_context ds game w)

-- lists name variables that have sites

module _ (known : Names) (x : ℕ) (none : known.variable x ≡ false) where
  other_variable : (y : ℕ) → known.variable y ≡ true → (y == x) ≡ false
  other_variable y k = go (y == x) refl
    where
      go : (v : Bool) → (y == x) ≡ v → v ≡ false
      go true f = absurd (both_ways (known.variable x) none (ap known.variable (sym (eqb-true y x f)) ∙ k))
      go false f = refl

  one_cell : (c : Tree) → is_there known OneCell c ≡ true → is_read_of x (variable_of c) ≡ false
  unfolding is_there
  one_cell Empty e = refl
  one_cell (Node (Leaf y) a b) e = other_variable y (and_parts (known.variable y) _ e).0
  one_cell (Node (Read y) a b) e = other_variable y (and_parts (known.variable y) _ e).0
  one_cell (Node h a b) e = refl

  no_cells : (t : Tree) → is_phrase Cells t ≡ true → is_there known Cells t ≡ true → has_cell_of x t ≡ false
  unfolding is_there is_phrase
  no_cells Empty w e = refl
  no_cells (Node Cons c more) w e =
      let p = and_parts (is_there known OneCell c) _ e in
      let q = and_parts (is_phrase OneCell c) _ w in
      ap₂ ◌||◌ (one_cell c p.0) (no_cells more q.1 p.1)
  no_cells (Node h c more) w e = absurd (both_ways false refl w)

  by_head : (h : Head) → (Branch ≡ h) ⊎ ((a b : Tree) → is_listed x (Node h a b) ≡ (is_listed x a || is_listed x b))
  unfolding is_listed
  by_head Branch = inl refl
  by_head h = inr (λ a b. refl)

  guards_unlisted : (us b : Tree) → is_phrase Guards b ≡ true → is_there known Guards b ≡ true → is_listed x us ≡ false → is_listed x b ≡ false → is_listed x (Node Branch us b) ≡ false
  unfolding is_listed is_there is_phrase
  guards_unlisted us Empty w e f g = absurd (both_ways false refl w)
  guards_unlisted us (Node Cons cells rest) w e f g =
      ap₂ ◌||◌ (no_cells cells (and_parts (is_phrase Cells cells) _ w).0 (and_parts (is_there known Cells cells) _ e).0) (or_parts (is_listed x cells) _ g).1
  guards_unlisted us (Node h cells rest) w e f g = absurd (both_ways false refl w)

  arm_guards : (σ : Phrase) (q : Phrase × Phrase) → parts σ Branch ≡ Some q → q.1 ≡ Guards
  arm_guards Arm q e = let i : (let p : Phrase × Phrase = (Binders, Guards) in p) ≡ q = cc in sym (ap (λ (p : Phrase × Phrase). p.1) i)
  arm_guards σ q e = absurd (cc)

  pub none_listed : (σ : Phrase) (t : Tree) → is_phrase σ t ≡ true → is_there known σ t ≡ true → is_listed x t ≡ false
  unfolding is_listed is_there
  none_listed σ Empty w e = refl
  none_listed σ (Node h a b) w e =
      let o = open_phrase σ h a b w in
      let p = and_parts (head_is_there known σ h) _ e in
      let r = and_parts (is_there known o.0.0 a) _ (ap (λ z. both_are z (λ τ. is_there known τ a) (λ ρ. is_there known ρ b)) (sym o.1) ∙ p.1) in
      go o.0 o.1 o.3 r.1 (none_listed o.0.0 a o.2 r.0) (none_listed o.0.1 b o.3 r.1) (by_head h)
    where
      go : (q : Phrase × Phrase) → parts σ h ≡ Some q → is_phrase q.1 b ≡ true → is_there known q.1 b ≡ true → is_listed x a ≡ false → is_listed x b ≡ false
          → (Branch ≡ h) ⊎ ((a b : Tree) → is_listed x (Node h a b) ≡ (is_listed x a || is_listed x b)) → is_listed x (Node h a b) ≡ false
      go q z w e f g (inr k) = k a b ∙ ap₂ ◌||◌ f g
      go q z w e f g (inl k) =
          let guards : q.1 ≡ Guards = arm_guards σ q (ap (parts σ) k ∙ z) in
          ap (λ j. is_listed x (Node j a b)) (sym k)
          ∙ guards_unlisted a b (ap (λ τ. is_phrase τ b) (sym guards) ∙ w) (ap (λ τ. is_there known τ b) (sym guards) ∙ e) f g

-- phrases have no keys and no calls

no_key : (σ : Phrase) (y : ℕ) (q : Phrase × Phrase) → parts σ (Key y) ≡ Some q → ⊥
no_key Inputs y q e = cc
no_key σ y q e = cc

no_call : (σ : Phrase) (y l : ℕ) (q : Phrase × Phrase) → parts σ (Call y l) ≡ Some q → ⊥
no_call Inputs y l q e = cc
no_call σ y l q e = cc

plain_head : (x : ℕ) (σ : Phrase) (h : Head) (q : Phrase × Phrase) → parts σ h ≡ Some q → is_untyped_here x h ≡ false
plain_head x σ (Key y) q e = absurd (no_key σ y q e)
plain_head x σ (Call y l) q e = absurd (no_call σ y l q e)
plain_head x σ h q e = refl

pub none_untyped : (x : ℕ) (σ : Phrase) (t : Tree) → is_phrase σ t ≡ true → is_untyped_in x t ≡ false
unfolding is_untyped_in
none_untyped x σ Empty w = refl
none_untyped x σ (Node h a b) w =
    let o = open_phrase σ h a b w in
    ap₂ ◌||◌ (plain_head x σ h o.0 o.1) (ap₂ ◌||◌ (none_untyped x o.0.0 a o.2) (none_untyped x o.0.1 b o.3))

-- a variable of a game is no index of it

module _ (ds : List Declaration) (game : Tree) (w : IsWellFormed ds game) (x : ℕ) (variable : is_variable game x ≡ true) where
  not_bound : (h : Head) (σ : Phrase) (a b : Tree) {p : ℕ} {Γ : Context} → Stands game p σ Γ (Node h a b) → is_some (index_here x h) ≡ false
  not_bound (Repl i n) σ a b st = go (i == x) refl (new_index (any ds) (is_variable game) game (scoped_game ds game w) st).no_variable
    where
      go : (v : Bool) → (i == x) ≡ v → is_variable game i ≡ false → is_some (cond v (Some n) None) ≡ false
      go true e k = absurd (both_ways (is_variable game x) (ap (is_variable game) (sym (eqb-true i x e)) ∙ k) variable)
      go false e k = refl
  not_bound h σ a b st = refl

  part_lacks : (σ : Phrase) (t : Tree) {p : ℕ} {Γ : Context} → Stands game p σ Γ t → Lacks x t
  part_lacks σ Empty st = lacking_empty x
  part_lacks σ (Node h a b) st =
      let q = has_parts σ h a b (stands_phrase (any ds) (is_variable game) game (scoped_game ds game w) st) in
      lacking_node x h a b (not_bound h σ a b st) (part_lacks q.0.0 a (in_first q.1 st)) (part_lacks q.0.1 b (in_second q.1 st))

  pub no_index_of : has_index game x ≡ false
  no_index_of = part_lacks Inputs game root

-- what is no index, no constant and no variable isn't read

module _ (ds : List Declaration) (next : Tree) (w : IsWellFormed ds next) (x : ℕ) (constant : is_constant_of ds x ≡ false) (lacks : Lacks x next) (none : is_variable next x ≡ false) (free : is_listed x next ≡ false) where
  abbrev g : Setting
  g = any ds

  fine : Game g (is_variable next) next
  fine = scoped_game ds next w

  unmade : {p : ℕ} {σ : Phrase} {Γ : Context} {h : Head} {a b : Tree} → Stands next p σ Γ (Node h a b) → made_by h a (Variable x) ≡ false
  unmade {h = h} {a = a} st = go (made_by h a (Variable x)) refl
    where
      go : (v : Bool) → made_by h a (Variable x) ≡ v → v ≡ false
      go true e = absurd (both_ways (is_variable next x) none (stands_variable g (is_variable next) next fine st x e))
      go false e = refl

  out_of_reach : {p : ℕ} {σ : Phrase} {Γ : Context} {b : Tree} → Stands next p σ Γ b → (c : Tree) → InReach Γ c → variable_of c ≡ Some x → ⊥
  out_of_reach root c (inl i) v = i
  out_of_reach root c (inr i) v = i
  out_of_reach (in_first {σ = σ} {Γ = Γ} {h = h} e st) c r v = out_of_reach st c (first_reach (position_of σ) h Γ c r) v
  out_of_reach (in_second {σ = σ} {Γ = Γ} {h = h} {a = a} {b = b} e st) c r v =
      out_of_reach st c (second_reach x (position_of σ) h a Γ (unmade st) (adds_none x σ h a b (unlisted x next free st)) c v r) v

  stands_lacks : {p : ℕ} {σ : Phrase} {Γ : Context} {b : Tree} → Stands next p σ Γ b → Lacks x b
  stands_lacks root = lacks
  stands_lacks (in_first {h = h} {a = a} {b = b} e st) = (lacking_parts x h a b (stands_lacks st)).1
  stands_lacks (in_second {h = h} {a = a} {b = b} e st) = (lacking_parts x h a b (stands_lacks st)).2

  not_below : (h : Head) (rs : List (ℕ × ℕ)) → is_index rs x ≡ false → is_some (index_here x h) ≡ false → is_index (replications_below h rs) x ≡ false
  not_below (Repl i n) rs e f = list_any-append (λ (r : ℕ × ℕ). r.0 == x) rs ((i, n) ∷ []) ∙ ap₂ ◌||◌ e (ap₂ ◌||◌ (go (i == x) f) refl)
    where
      go : (v : Bool) → is_some (cond v (Some n) None) ≡ false → v ≡ false
      go true f = absurd (both_ways true f refl)
      go false f = refl
  not_below h rs e f = e

  no_current : {p : ℕ} {σ : Phrase} {Γ : Context} {b : Tree} → Stands next p σ Γ b → is_index Γ.replications x ≡ false
  no_current root = refl
  no_current (in_first {σ = σ} {Γ = Γ} {h = h} e st) = ap (λ rs. is_index rs x) (first_replications (position_of σ) h Γ) ∙ no_current st
  no_current (in_second {σ = σ} {Γ = Γ} {h = h} {a = a} {b = b} e st) =
      ap (λ rs. is_index rs x) (second_replications (position_of σ) h a Γ) ∙ not_below h Γ.replications (no_current st) (lacking_parts x h a b (stands_lacks st)).0

  not_read : {p : ℕ} {Γ : Context} {h : Head} {a b : Tree} → Stands next p Term Γ (Node h a b) → head_reads x h ≡ true → ⊥
  not_read {Γ = Γ} {h = Leaf y} {a = a} {b = b} st e = go (stands_asked g (is_variable next) next fine st).0.scope
    where
      same : y ≡ x
      same = eqb-true y x e

      go : (is_index Γ.replications y ≡ true) ⊎ ((g.is_constant y ≡ true) ⊎ InReach Γ (Node (Leaf y) a b)) → ⊥
      go (inl i) = both_ways (is_index Γ.replications x) (no_current st) (ap (is_index Γ.replications) (sym same) ∙ i)
      go (inr (inl i)) = both_ways (is_constant_of ds x) constant (ap (is_constant_of ds) (sym same) ∙ i)
      go (inr (inr i)) = out_of_reach st (Node (Leaf y) a b) i (read_variable x (Leaf y) a b e)
  not_read {h = Read y} {a = a} {b = b} st e = out_of_reach st (Node (Read y) a b) (stands_asked g (is_variable next) next fine st).0.scope (read_variable x (Read y) a b e)
  not_read {h = h} st e = both_ways false refl e

  no_name : (σ : Phrase) (y : ℕ) (a b : Tree) (q : Phrase × Phrase) {p : ℕ} {Γ : Context} → oracle_parts σ (Leaf y) ≡ Some q → Stands next p σ Γ (Node (Leaf y) a b) → (y == x) ≡ true → ⊥
  no_name Term y a b q e st f = not_read st f
  no_name OneCell y a b q e st f = both_ways (y == x) (unlisted x next free st) f
  no_name σ y a b q e st f = cc

  no_cell : (σ : Phrase) (y : ℕ) (a b : Tree) (q : Phrase × Phrase) {p : ℕ} {Γ : Context} → oracle_parts σ (Read y) ≡ Some q → Stands next p σ Γ (Node (Read y) a b) → (y == x) ≡ true → ⊥
  no_cell Term y a b q e st f = not_read st f
  no_cell OneCell y a b q e st f = both_ways (y == x) (unlisted x next free st) f
  no_cell σ y a b q e st f = cc

  not_read_as : (σ : Phrase) (h : Head) (a b : Tree) (q : Phrase × Phrase) {p : ℕ} {Γ : Context} → oracle_parts σ h ≡ Some q → Stands next p σ Γ (Node h a b) → head_reads x h ≡ true → ⊥
  not_read_as σ (Leaf y) a b q e st f = no_name σ y a b q e st f
  not_read_as σ (Read y) a b q e st f = no_cell σ y a b q e st f
  not_read_as σ h a b q e st f = both_ways false refl f

  none_read : (σ : Phrase) (t : Tree) {p : ℕ} {Γ : Context} → Stands next p σ Γ t → reads_none (only x) t ≡ true
  unfolding reads_only
  none_read σ Empty st = refl
  none_read σ (Node h a b) st =
      let q = has_parts σ h a b (stands_phrase g (is_variable next) next fine st) in
      ap₂ ◌&&◌ (go q.0 q.1 (head_reads x h) refl) (ap₂ ◌&&◌ (none_read q.0.0 a (in_first q.1 st)) (none_read q.0.1 b (in_second q.1 st)))
    where
      go : (q : Phrase × Phrase) → oracle_parts σ h ≡ Some q → (v : Bool) → head_reads x h ≡ v → head_reads_only (λ y. not (only x y)) h ≡ true
      go q e true f = absurd (not_read_as σ h a b q e st f)
      go q e false f = unread_head x h f

  pub unread_in_next : reads_none (only x) next ≡ true
  unread_in_next = none_read Inputs next root
