-- A tree in the grammar of games has no key and no call, and so it is of each visit.
use Rattle.std.proofs.Common.{◌≡◌, ℕ, true, ◌&&◌, List, [], Option, Some, None, refl, sym, ap, ap₂, ◌∙◌}
use Rattle.std.proofs.lemmas.Bool.{both_ways, and_parts}
use Rattle.std.specs.List.{AllByRecursion}
use Rattle.cv_syntax_trees.specs.declared.head.Head.{Head}
use Rattle.cv_syntax_trees.specs.declared.head.Head.TheVariants.{Key, Call}
use Rattle.cv_syntax_trees.specs.Declarations.{Declaration}
use Rattle.cv_syntax_trees.specs.Tree.{Tree, Empty, Node}
use Rattle.cv_meaning.specs.Tapes.{Tape}
use Rattle.cv_meaning.specs.Interpretation.{Setting}
use Rattle.cv_meaning.specs.Serving.{Visit}
use Rattle.cv_meaning.specs.Runs.{Mode, Answer, Move, run_visits, start}
use Rattle.cv_meaning.specs.Experiments.{visits_of_run}
use Rattle.cv_meaning_runs.specs.Listed.{head_is_no_call, has_no_calls}
use Rattle.cv_meaning_runs.proofs.Placed.{visits_have}
use Rattle.cv_scope_rules.proofs.Plain.{phrase_plain}
use Rattle.cv_scope_rules.specs.Phrases.{Phrase, Inputs, Body, parts, both_are, is_phrase, oracle_parts, is_oracle_phrase, head_is_plain, is_plain, IsWellFormed, IsWellFormedContext}

abbrev pub VisitPlain : Visit → Type 0
VisitPlain v = is_plain v.tree ≡ true

pub visits_plain : (g : Setting) (m : Mode) (next : List Answer → Option Move) (t : Tape) (n : ℕ) (game : Tree) → is_plain game ≡ true → AllByRecursion VisitPlain (run_visits g m next t n (start g game))
unfolding visits_of_run
visits_plain g m next t n game e =
    visits_have (λ p b. is_plain b ≡ true) g m (record { coins = []; coins_have_values = tt; moves = n; next = λ cs. next }) game t
    (λ p h a b x. let r = and_parts (is_plain a) _ (and_parts (head_is_plain h) _ x).1 in (r.0, r.1)) e

head_no_call : (h : Head) → head_is_plain h ≡ true → head_is_no_call h ≡ true
head_no_call (Call x l) e = e
head_no_call h e = refl

pub plain_no_calls : (b : Tree) → is_plain b ≡ true → has_no_calls b ≡ true
plain_no_calls Empty e = refl
plain_no_calls (Node h a b) e =
    let r = and_parts (head_is_plain h) _ e in
    let s = and_parts (is_plain a) _ r.1 in
    ap₂ ◌&&◌ (head_no_call h r.0) (ap₂ ◌&&◌ (plain_no_calls a s.0) (plain_no_calls b s.1))

-- without keys and calls the two tables are one

oracle_plain : (σ : Phrase) (h : Head) → head_is_plain h ≡ true → oracle_parts σ h ≡ parts σ h
oracle_plain Body (Key x) e = absurd (both_ways _ refl e)
oracle_plain Body (Call x l) e = absurd (both_ways _ refl e)
oracle_plain σ h e = refl

same_phrase : (σ : Phrase) (b : Tree) → is_plain b ≡ true → is_oracle_phrase σ b ≡ is_phrase σ b
unfolding is_phrase is_oracle_phrase
same_phrase σ Empty e = refl
same_phrase σ (Node h a b) e =
    let r = and_parts (head_is_plain h) _ e in
    let s = and_parts (is_plain a) _ r.1 in
    ap (λ o. both_are o (λ τ. is_oracle_phrase τ a) (λ ρ. is_oracle_phrase ρ b)) (oracle_plain σ h r.0) ∙ go (parts σ h) (λ τ. same_phrase τ a s.0) (λ ρ. same_phrase ρ b s.1)
  where
    go : (o : Option (Phrase × Phrase)) → ((τ : Phrase) → is_oracle_phrase τ a ≡ is_phrase τ a) → ((ρ : Phrase) → is_oracle_phrase ρ b ≡ is_phrase ρ b) → both_are o (λ τ. is_oracle_phrase τ a) (λ ρ. is_oracle_phrase ρ b) ≡ both_are o (λ τ. is_phrase τ a) (λ ρ. is_phrase ρ b)
    go None f k = refl
    go (Some q) f k = ap₂ ◌&&◌ (f q.0) (k q.1)

pub game_plain : (ds : List Declaration) (game : Tree) → IsWellFormed ds game → is_plain game ≡ true
game_plain ds game w = phrase_plain Inputs game w.phrase

pub game_context : (ds : List Declaration) (game : Tree) → IsWellFormed ds game → IsWellFormedContext ds game
game_context ds game w = record { scoped = w.scoped; phrase = same_phrase Inputs game (game_plain ds game w) ∙ w.phrase; constants = w.constants }

pub context_game : (ds : List Declaration) (context : Tree) → IsWellFormedContext ds context → is_plain context ≡ true → IsWellFormed ds context
context_game ds context w e = record { scoped = w.scoped; phrase = sym (same_phrase Inputs context e) ∙ w.phrase; constants = w.constants }
