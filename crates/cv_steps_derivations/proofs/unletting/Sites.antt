-- The only site of a variable: its place, and the replications above it.
use Rattle.std.proofs.Common.{◌≡◌, ℕ, ◌+◌, ◌-◌, ◌<◌, Bool, true, false, cond, List, [], ◌∷◌, ◌++◌, map, Some, refl, sym, ap, ap₂, ◌∙◌, ltb, le-ltb, lt-ltb, arith}
use Rattle.std.proofs.lemmas.List.{map-append}
use Rattle.cv_syntax_trees.specs.declared.head.Head.{Head}
use Rattle.cv_syntax_trees.specs.declared.head.Head.TheVariants.{Branch, Cons}
use Rattle.cv_syntax_trees.specs.Head.{weight}
use Rattle.cv_syntax_trees.specs.Tree.{Tree, Empty, Node, first_place, second_place, size, subtree}
use Rattle.cv_scope_rules.specs.declared.position.Position.{Position}
use Rattle.cv_scope_rules.specs.declared.position.Position.TheVariants.{Anywhere, Guards, Guarded}
use Rattle.cv_scope_rules.specs.Context.{Context, first_context, first_position, nothing_known, second_context, second_position}
use Rattle.cv_scope_rules.specs.Above.{first_standing, second_standing}
use Rattle.cv_scope_rules.specs.Behind.{behind_site, sites_in, sites_of}
use Rattle.cv_scope_rules.specs.Made.{made_by}
use Rattle.cv_scope_rules.specs.Phrases.{Phrase}
use Rattle.cv_scope_rules.specs.Sites.{Variable}
use Rattle.cv_scope_runs.specs.Promises.{after_site, definitions_in, definitions_of}
use Rattle.cv_scope_runs.proofs.Standing.{Stands, root, in_first, in_second}
use Rattle.cv_derive_facts.proofs.Covering.{Covers, first_covers, same_covers, second_covers}
use Rattle.cv_scene.specs.Scenes.{or_empty, part_at}
use Rattle.cv_steps.specs.Unletting.{Assignment, assigned_in, only_assignment}
use Rattle.cv_steps_laws.proofs.Unletted.{only_site}

abbrev AreSame : Context → Context → Type 0
AreSame Γ Δ = Covers (λ f. Unit {0}) (λ c. Unit {0}) Γ Δ

-- a definition by its place and its replications
abbrev entry : ℕ × Context → ℕ × List (ℕ × ℕ)
entry s = (s.0, s.1.replications)

first_same : (w : Position) (h : Head) (Γ Δ : Context) → AreSame Γ Δ → AreSame (first_context w h Γ) (first_standing w h Δ)
first_same w h Γ Δ c = first_covers (λ f. Unit {0}) (λ c. Unit {0}) w h Γ Δ c

second_same : (w : Position) (h : Head) (a : Tree) (Γ Δ : Context) → AreSame Γ Δ → AreSame (second_context w h a Γ) (second_standing w h a Δ)
second_same w h a Γ Δ c = second_covers (λ f. Unit {0}) (λ c. Unit {0}) w h a Γ Δ c

behind_same : (h : Head) (a b : Tree) (Γ Δ : Context) → AreSame Γ Δ → AreSame (after_site h a b Γ) (behind_site h a b Δ)
behind_same Branch us (Node h cells (Node k c body)) Γ Δ e =
    second_same Guarded Cons c (second_context Guards Cons cells (second_context Anywhere Branch us Γ)) (second_standing Guards Cons cells (second_standing Anywhere Branch us Δ))
    (second_same Guards Cons cells (second_context Anywhere Branch us Γ) (second_standing Anywhere Branch us Δ) (second_same Anywhere Branch us Γ Δ e))
behind_same Branch us (Node h cells Empty) Γ Δ e = second_same Anywhere Branch us Γ Δ e
behind_same Branch us Empty Γ Δ e = second_same Anywhere Branch us Γ Δ e
behind_same h a b Γ Δ e = second_same Anywhere h a Γ Δ e

entry_where : (b : Bool) (p : ℕ) (Γ Δ : Context) → AreSame Γ Δ → map entry (cond b ((p, Γ) ∷ []) []) ≡ map entry (cond b ((p, Δ) ∷ []) [])
entry_where true p Γ Δ c = ap (λ (rs : List (ℕ × ℕ)). (let z : ℕ × List (ℕ × ℕ) = (p, rs) in z) ∷ []) (sym c.replications)
entry_where false p Γ Δ c = refl

same_entries : (x : ℕ) (w : Position) (Γ Δ : Context) (p : ℕ) (t : Tree) → AreSame Γ Δ → map entry (definitions_in x w Γ p t) ≡ map entry (sites_in x w Δ p t)
unfolding definitions_in sites_in
same_entries x w Γ Δ p Empty c = refl
same_entries x w Γ Δ p (Node h a b) c =
    map-append entry (cond (made_by h a (Variable x)) ((p, after_site h a b Γ) ∷ []) []) _
    ∙ ap₂ ◌++◌ (entry_where (made_by h a (Variable x)) p (after_site h a b Γ) (behind_site h a b Δ) (behind_same h a b Γ Δ c))
    (map-append entry (definitions_in x (first_position w h) (first_context w h Γ) (first_place p h) a) _
    ∙ ap₂ ◌++◌ (same_entries x (first_position w h) (first_context w h Γ) (first_standing w h Δ) (first_place p h) a (first_same w h Γ Δ c))
    (same_entries x (second_position w h) (second_context w h a Γ) (second_standing w h a Δ) (second_place p h a) b (second_same w h a Γ Δ c))
    ∙ sym (map-append entry (sites_in x (first_position w h) (first_standing w h Δ) (first_place p h) a) _))
    ∙ sym (map-append entry (cond (made_by h a (Variable x)) ((p, behind_site h a b Δ) ∷ []) []) _)

-- the only definition of a variable, with what is known behind it
pub record OneDefinition (game : Tree) (x : ℕ) (d : Assignment) : Type 0 where
  pub place : ℕ
  pub known : Context
  pub one : definitions_of game x ≡ (place, known) ∷ []
  pub replications : known.replications ≡ d.behind.replications
  pub assigned : assigned_in (part_at game place) ≡ Some d.term

known_site : (game : Tree) (x p : ℕ) (Δ : Context) → sites_of game x ≡ (p, Δ) ∷ [] → (Γ : Context) × (definitions_of game x ≡ (p, Γ) ∷ []) × (Γ.replications ≡ Δ.replications)
known_site game x p Δ e = go (definitions_of game x) (same_entries x Anywhere nothing_known nothing_known 0 game (same_covers (λ f. Unit {0}) (λ c. Unit {0}) nothing_known) ∙ ap (map entry) e)
  where
    go : (ds : List (ℕ × Context)) → map entry ds ≡ (p, Δ.replications) ∷ [] → (Γ : Context) × (ds ≡ (p, Γ) ∷ []) × (Γ.replications ≡ Δ.replications)
    go [] f = absurd (cc)
    go (s ∷ []) f =
        let i : entry s ≡ (p, Δ.replications) = cc in
        (s.1, ap (λ q. (let z : ℕ × Context = (q, s.1) in z) ∷ []) (ap (λ (z : ℕ × List (ℕ × ℕ)). z.0) i), ap (λ (z : ℕ × List (ℕ × ℕ)). z.1) i)
    go (s ∷ (r ∷ ds)) f = absurd (cc)

pub only_definition : (game : Tree) (x : ℕ) (d : Assignment) → only_assignment game x ≡ Some d → OneDefinition game x d
only_definition game x d e =
    let s = only_site game x d e in
    let k = known_site game x s.0 d.behind s.1 in
    record { place = s.0; known = k.0; one = k.1; replications = k.2; assigned = s.2 }

-- what stands at the places of a subtree
subtree_down : (game : Tree) {p : ℕ} {σ : Phrase} {Γ : Context} {b : Tree} → Stands game p σ Γ b → (q : ℕ) → q < size b → subtree game (p + q) ≡ subtree b q
unfolding size subtree
subtree_down game root q l = ap (subtree game) (omega arith)
subtree_down game (in_first {p = p} {h = h} {a = a} {b = b} e st) q l =
    ap (subtree game) (omega arith)
    ∙ subtree_down game st (weight h + q) (omega arith)
    ∙ ap₂ (λ v w. cond v (Some (Node h a b)) (cond w (subtree a (weight h + q - weight h)) (subtree b (weight h + q - (weight h + size a))))) (le-ltb (weight h + q) (weight h) (omega arith)) (lt-ltb (weight h + q) (weight h + size a) (omega arith))
    ∙ ap (subtree a) (omega arith)
subtree_down game (in_second {p = p} {h = h} {a = a} {b = b} e st) q l =
    ap (subtree game) (omega arith)
    ∙ subtree_down game st (weight h + size a + q) (omega arith)
    ∙ ap₂ (λ v w. cond v (Some (Node h a b)) (cond w (subtree a (weight h + size a + q - weight h)) (subtree b (weight h + size a + q - (weight h + size a))))) (le-ltb (weight h + size a + q) (weight h) (omega arith)) (le-ltb (weight h + size a + q) (weight h + size a) (omega arith))
    ∙ ap (subtree b) (omega arith)

-- what stands at the place of a node that has one
pub part_there : (game : Tree) (p : ℕ) (σ : Phrase) (Γ : Context) (h : Head) (a b : Tree) → Stands game p σ Γ (Node h a b) → weight h ≡ 1 → part_at game p ≡ Node h a b
unfolding size subtree
part_there game p σ Γ h a b st e =
    ap or_empty
    (ap (subtree game) (let i : p ≡ p + 0 = omega arith in i) ∙ subtree_down game st 0 (omega arith)
    ∙ ap (λ v. cond v (Some (Node h a b)) (cond (ltb 0 (weight h + size a)) (subtree a (0 - weight h)) (subtree b (0 - (weight h + size a))))) (lt-ltb 0 (weight h) (omega arith)))
