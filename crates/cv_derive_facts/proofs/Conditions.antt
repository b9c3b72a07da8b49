-- In a game of the grammar no condition is missing, so what is known at a place and what stands above it have the same facts.
use Rattle.std.proofs.Common.{◌≡◌, ℕ, Bool, true, false, [], ◌∷◌, ◌++◌, Some, refl, sym, ap, ap₂, subst, ◌∙◌}
use Rattle.std.proofs.lemmas.Bool.{both_ways}
use Rattle.cv_syntax_trees.specs.declared.head.Head.{Head}
use Rattle.cv_syntax_trees.specs.declared.head.Head.TheVariants.{Repl, In, Event, New, Let, If, Branch, Cons, Eq, Not, Key, Call}
use Rattle.cv_syntax_trees.specs.Tree.{Tree, Empty, Node}
use Rattle.cv_scope_rules.specs.declared.position.Position.{Position}
use Rattle.cv_scope_rules.specs.declared.position.Position.TheVariants as position
use Rattle.cv_scope_rules.specs.Context.{Context, cell_of, context_at, first_context, first_position, known_at, nothing_known, second_context, second_position, with_fact}
use Rattle.cv_scope_rules.specs.Phrases.{Phrase, Inputs, Body, Then, Else, Guarded, Term, is_oracle_phrase, oracle_parts}
use Rattle.cv_scope_runs.proofs.Games.{has_parts, phrase_parts}
use Rattle.cv_scope_runs.proofs.Rows.{Row, stop, par, repl, input, yield, output, restriction, definition, key, call, event, test, bodies, last_body, find, branches, branch, guards, guarded, placed, position_of, row, walks}
use Rattle.cv_path.specs.declared.place.Lies.{Lies}
use Rattle.cv_path.specs.declared.place.Lies.TheVariants.{Here, Within, Behind}
use Rattle.cv_path.specs.Places.{LiesAt}
use Rattle.cv_path.proofs.Bounds.{lies_somewhere}
use Rattle.cv_scope_rules.specs.Above.{first_standing, second_standing, standing_at, stands_at, with_failed, with_held}
use Rattle.cv_derive_facts.specs.Facts.{terms_of}
use Rattle.cv_derive_facts.proofs.Covering.{known_here, known_within, known_behind, known_empty}
use Rattle.cv_derive_facts.proofs.Flat.{Some_injective, flat_parts}
use Rattle.cv_derive_facts.proofs.Standings.{standing_empty, standing_here, standing_within, standing_behind}

-- what is known and what stands agree in what makes facts
record Agrees (Γ Δ : Context) : Type 0 where
  replications : Δ.replications ≡ Γ.replications
  tested : Δ.tested ≡ Γ.tested
  facts : Δ.facts ≡ Γ.facts

-- a condition where one is asked for: at the bodies of an `if`, and in front of a branch's body

abbrev HasTest : Phrase → Context → Type 0
HasTest Then Γ = Γ.tested ≡ Empty → ⊥
HasTest Else Γ = Γ.tested ≡ Empty → ⊥
HasTest σ Γ = Unit {0}

abbrev FirstHas : Position → Head → Context → Type 0
FirstHas position.Bodies Cons Γ = Γ.tested ≡ Empty → ⊥
FirstHas position.ElseBody Cons Γ = Γ.tested ≡ Empty → ⊥
FirstHas w h Γ = Unit {0}

abbrev SecondHas : Position → Head → Tree → Type 0
SecondHas position.Guarded Cons a = a ≡ Empty → ⊥
SecondHas w h a = Unit {0}

first_has : (σ : Phrase) (h : Head) (Γ : Context) → HasTest σ Γ → FirstHas (position_of σ) h Γ
first_has Then Cons Γ t = t
first_has Then h Γ t = tt
first_has Else Cons Γ t = t
first_has Else h Γ t = tt
first_has σ h Γ t = tt

term_there : (a : Tree) → is_oracle_phrase Term a ≡ true → a ≡ Empty → ⊥
unfolding is_oracle_phrase
term_there a f e = both_ways _ refl (subst (λ t. is_oracle_phrase Term t ≡ true) e f)

second_has : (σ τ ρ : Phrase) (h : Head) (a : Tree) → oracle_parts σ h ≡ Some (τ, ρ) → is_oracle_phrase τ a ≡ true → SecondHas (position_of σ) h a
second_has Guarded τ ρ Cons a e f = term_there a (subst (λ υ. is_oracle_phrase υ a ≡ true) (sym (ap (λ (q : Phrase × Phrase). q.0) (Some_injective (Term, Body) (τ, ρ) e))) f)
second_has Guarded τ ρ h a e f = tt
second_has σ τ ρ h a e f = tt

-- they agree below a node

first_agrees : (w : Position) (h : Head) (Γ Δ : Context) → FirstHas w h Γ → Agrees Γ Δ → Agrees (first_context w h Γ) (first_standing w h Δ)
first_agrees position.Bodies Cons Γ Δ n c = go Δ.tested refl
  where
    go : (t : Tree) → Δ.tested ≡ t → Agrees (with_fact Γ Γ.tested) (with_held Δ Δ.tested)
    go Empty e = absurd (n (sym c.tested ∙ e))
    go (Node h a b) e = subst (λ u. Agrees (with_fact Γ Γ.tested) (with_held Δ u)) (sym e) (record { replications = c.replications; tested = c.tested; facts = ap₂ (λ l t. l ++ t ∷ []) c.facts (sym e ∙ c.tested) })
first_agrees position.ElseBody Cons Γ Δ n c = go Δ.tested refl
  where
    go : (t : Tree) → Δ.tested ≡ t → Agrees (with_fact Γ (Node Not Γ.tested Empty)) (with_failed Δ Δ.tested)
    go Empty e = absurd (n (sym c.tested ∙ e))
    go (Node h a b) e = subst (λ u. Agrees (with_fact Γ (Node Not Γ.tested Empty)) (with_failed Δ u)) (sym e) (record { replications = c.replications; tested = c.tested; facts = ap₂ (λ l t. l ++ Node Not t Empty ∷ []) c.facts (sym e ∙ c.tested) })
first_agrees w Cons Γ Δ n c = c
first_agrees w h Γ Δ n c = c

guarded_agrees : (a : Tree) (Γ Δ : Context) → (a ≡ Empty → ⊥) → Agrees Γ Δ → Agrees (second_context position.Guarded Cons a Γ) (second_standing position.Guarded Cons a Δ)
guarded_agrees Empty Γ Δ n c = absurd (n refl)
guarded_agrees (Node h b d) Γ Δ n c = record { replications = c.replications; tested = c.tested; facts = ap (λ l. l ++ Node h b d ∷ []) c.facts }

second_agrees : (w : Position) (h : Head) (a : Tree) (Γ Δ : Context) → SecondHas w h a → Agrees Γ Δ → Agrees (second_context w h a Γ) (second_standing w h a Δ)
second_agrees position.Guarded Cons a Γ Δ n c = guarded_agrees a Γ Δ n c
second_agrees position.Guards Cons a Γ Δ n c = record { replications = c.replications; tested = c.tested; facts = c.facts }
second_agrees position.Cells Cons a Γ Δ n c = record { replications = c.replications; tested = c.tested; facts = c.facts }
second_agrees w Cons a Γ Δ n c = c
second_agrees w (Repl i k) a Γ Δ n c = record { replications = ap (λ rs. rs ++ (i, k) ∷ []) c.replications; tested = c.tested; facts = c.facts }
second_agrees w (In d) a Γ Δ n c = record { replications = c.replications; tested = c.tested; facts = c.facts }
second_agrees w (New x T) a Γ Δ n c = record { replications = c.replications; tested = c.tested; facts = c.facts }
second_agrees w (Let x T) a Γ Δ n c = record { replications = c.replications; tested = c.tested; facts = ap₂ (λ l rs. l ++ Node Eq (cell_of rs x) a ∷ []) c.facts c.replications }
second_agrees w (Key x) a Γ Δ n c = record { replications = c.replications; tested = c.tested; facts = c.facts }
second_agrees w (Call x l) a Γ Δ n c = record { replications = c.replications; tested = c.tested; facts = c.facts }
second_agrees w (Event e) a Γ Δ n c = record { replications = c.replications; tested = c.tested; facts = c.facts }
second_agrees w If a Γ Δ n c = record { replications = c.replications; tested = refl; facts = c.facts }
second_agrees w Branch a Γ Δ n c = record { replications = c.replications; tested = c.tested; facts = c.facts }
second_agrees w h a Γ Δ n c = c

-- and the conditions that are asked for are there

row_tests : (σ τ ρ : Phrase) (h : Head) (a : Tree) (Γ : Context) → Row σ h τ ρ → is_oracle_phrase τ a ≡ true → HasTest σ Γ → HasTest τ (first_context (position_of σ) h Γ) × HasTest ρ (second_context (position_of σ) h a Γ)
row_tests σ τ ρ h a Γ stop f t = (tt, tt)
row_tests σ τ ρ h a Γ par f t = (tt, tt)
row_tests σ τ ρ h a Γ repl f t = (tt, tt)
row_tests σ τ ρ h a Γ input f t = (tt, tt)
row_tests σ τ ρ h a Γ yield f t = (tt, tt)
row_tests σ τ ρ h a Γ output f t = (tt, tt)
row_tests σ τ ρ h a Γ restriction f t = (tt, tt)
row_tests σ τ ρ h a Γ definition f t = (tt, tt)
row_tests σ τ ρ h a Γ key f t = (tt, tt)
row_tests σ τ ρ h a Γ call f t = (tt, tt)
row_tests σ τ ρ h a Γ event f t = (tt, tt)
row_tests σ τ ρ h a Γ test f t = (tt, term_there a f)
row_tests σ τ ρ h a Γ bodies f t = (tt, t)
row_tests σ τ ρ h a Γ last_body f t = (tt, tt)
row_tests σ τ ρ h a Γ find f t = (tt, tt)
row_tests σ τ ρ h a Γ branches f t = (tt, tt)
row_tests σ τ ρ h a Γ branch f t = (tt, tt)
row_tests σ τ ρ h a Γ guards f t = (tt, tt)
row_tests σ τ ρ h a Γ guarded f t = (tt, tt)

flat_tests : (σ : Phrase) (Γ : Context) → walks σ ≡ false → HasTest σ Γ
flat_tests Then Γ w = absurd (both_ways _ w refl)
flat_tests Else Γ w = absurd (both_ways _ w refl)
flat_tests σ Γ w = tt

tests_below : (σ τ ρ : Phrase) (h : Head) (a : Tree) (Γ : Context) → oracle_parts σ h ≡ Some (τ, ρ) → is_oracle_phrase τ a ≡ true → HasTest σ Γ → HasTest τ (first_context (position_of σ) h Γ) × HasTest ρ (second_context (position_of σ) h a Γ)
tests_below σ τ ρ h a Γ e f t = go (walks σ) refl
  where
    go : (b : Bool) → walks σ ≡ b → HasTest τ (first_context (position_of σ) h Γ) × HasTest ρ (second_context (position_of σ) h a Γ)
    go true w = row_tests σ τ ρ h a Γ (row σ h τ ρ w e) f t
    go false w = let r = flat_parts σ τ ρ h w e in (flat_tests τ (first_context (position_of σ) h Γ) r.first, flat_tests ρ (second_context (position_of σ) h a Γ) r.second)

facts_agree : (t : Tree) (p : ℕ) (σ : Phrase) (Γ Δ : Context) → is_oracle_phrase σ t ≡ true → HasTest σ Γ → Agrees Γ Δ → terms_of (standing_at (position_of σ) Δ t p) ≡ terms_of (context_at (position_of σ) Γ t p)
facts_agree Empty p σ Γ Δ f n c = ap terms_of (standing_empty (position_of σ) Δ Empty p refl) ∙ sym (ap terms_of (known_empty (position_of σ) Γ p))
facts_agree (Node h a b) p σ Γ Δ f n c =
    let x = has_parts σ h a b f in
    let s = phrase_parts σ x.0.0 x.0.1 h a b x.1 f in
    let v = placed σ x.0.0 x.0.1 h x.1 in
    let t = tests_below σ x.0.0 x.0.1 h a Γ x.1 s.0 n in
    go x.0.0 x.0.1 v
    (λ q. facts_agree a q x.0.0 (first_context (position_of σ) h Γ) (first_standing (position_of σ) h Δ) s.0 t.0 (first_agrees (position_of σ) h Γ Δ (first_has σ h Γ n) c))
    (λ q. facts_agree b q x.0.1 (second_context (position_of σ) h a Γ) (second_standing (position_of σ) h a Δ) s.1 t.1 (second_agrees (position_of σ) h a Γ Δ (second_has σ x.0.0 x.0.1 h a x.1 s.0) c)) (lies_somewhere h a p)
  where
    go : (τ ρ : Phrase) → (first_position (position_of σ) h ≡ position_of τ) × (second_position (position_of σ) h ≡ position_of ρ)
        → ((q : ℕ) → terms_of (standing_at (position_of τ) (first_standing (position_of σ) h Δ) a q) ≡ terms_of (context_at (position_of τ) (first_context (position_of σ) h Γ) a q))
        → ((q : ℕ) → terms_of (standing_at (position_of ρ) (second_standing (position_of σ) h a Δ) b q) ≡ terms_of (context_at (position_of ρ) (second_context (position_of σ) h a Γ) b q))
        → (l : Lies) × LiesAt h a p l → terms_of (standing_at (position_of σ) Δ (Node h a b) p) ≡ terms_of (context_at (position_of σ) Γ (Node h a b) p)
    go τ ρ v i j (Here, l) = ap terms_of (standing_here (position_of σ) Δ (Node h a b) h a b p 0 refl l) ∙ (ap Some c.facts ∙ sym (ap terms_of (known_here (position_of σ) Γ h a b p 0 l)))
    go τ ρ v i j (Within q, l) =
        ap terms_of (standing_within (position_of σ) Δ (Node h a b) h a b p q refl l ∙ ap (λ w. standing_at w (first_standing (position_of σ) h Δ) a q) v.0)
        ∙ (i q ∙ sym (ap terms_of (known_within (position_of σ) Γ h a b p q l ∙ ap (λ w. context_at w (first_context (position_of σ) h Γ) a q) v.0)))
    go τ ρ v i j (Behind q, l) =
        ap terms_of (standing_behind (position_of σ) Δ (Node h a b) h a b p q refl l ∙ ap (λ w. standing_at w (second_standing (position_of σ) h a Δ) b q) v.1)
        ∙ (j q ∙ sym (ap terms_of (known_behind (position_of σ) Γ h a b p q l ∙ ap (λ w. context_at w (second_context (position_of σ) h a Γ) b q) v.1)))

pub all_known : (game : Tree) (p : ℕ) → is_oracle_phrase Inputs game ≡ true → terms_of (stands_at game p) ≡ terms_of (known_at game p)
all_known game p f = facts_agree game p Inputs nothing_known nothing_known f tt (record { replications = refl; tested = refl; facts = refl })
