-- What is expected of texts and visits is met.
use Rattle.std.proofs.Common.{◌≡◌, ℕ, ◌<◌, Bool, true, false, cond, ◌||◌, ◌==◌, List, [], ◌∷◌, ◌⊎◌, inl, inr, length, is_some, Option, Some, None, refl, sym, ap, subst, ◌∙◌, eqb-true, eq-eqb, arith}
use Rattle.std.proofs.lemmas.Bool.{both_ways}
use Rattle.std.specs.List.{AllByRecursion, IsDistinct, list_any}
use Rattle.cv_syntax_trees.specs.Tree.{chain, size, binds, reads_only}
use Rattle.cv_meaning.specs.Tapes.{blank}
use Rattle.cv_meaning.specs.Candidates.{tuples_up_to}
use Rattle.cv_meaning.specs.Memory.{Store, nowhere, put}
use Rattle.cv_meaning.specs.Binders.{bound_to}
use Rattle.cv_meaning.specs.Inputs.{inputs_of}
use Rattle.cv_meaning.specs.Terms.{value}
use Rattle.cv_meaning.specs.Serving.{serve, step, visits}
use Rattle.cv_meaning.specs.Runs.{Events, taken, moved, run_from, visits_of_move, run_visits}
use Rattle.cv_meaning.specs.Experiments.{visits_of_run}
use Rattle.cv_meaning.specs.contexts.Sites.{bounds_above, sites_from, sites_of}
use Rattle.cv_meaning.specs.contexts.Frames.{put_at}
use Rattle.cv_meaning.specs.contexts.BodyTerms.{body_value}
use Rattle.cv_meaning.specs.contexts.Finds.{picks_at, picks, picked}
use Rattle.cv_meaning.specs.contexts.Bodies.{body_answer, branch_answer, reply}
use Rattle.cv_meaning.specs.contexts.Inlined.{index_terms, needed}
use Rattle.cv_meaning.specs.contexts.Roles.{Plain, Replication, Gone, Variable, Index, is_plain}
use Rattle.cv_inline.specs.bodies.Accepted.{IsFineTerm, IsFineBody, IsFineCall}
use Rattle.cv_meaning.specs.contexts.KeyTerms.{IsFineKeyTerm}
use Rattle.cv_inline.specs.NextGame.{Calling, names_assigned, call_of, callings_from, inlined_calls_of}
use Rattle.cv_inline.specs.Draws.{same_role, same_find, index_draws, body_draws, finds_in, name_for, is_drawn}
use Rattle.cv_inline.specs.Worked.{at, one_sender}
use Rattle.cv_inline.proofs.Named.{found_again, same_role_exact}
use Rattle.cv_inline_laws.specs.runs.Texts.{Text, IsHere, IsExpectedCall, IsFineCalling}
use Rattle.cv_inline_laws.specs.runs.Contexts.{context_setting, IsFineIn, IsFineContext, AreFineInputs, AreLikeTapes, IsExpected, IsTextOf}
use Rattle.cv_inline_laws.specs.worked.Worked.{setting, drawn_names, roles, finds_drawn, drawn, game_role, role, answer, asker, sender, receiver}

-- the name of what is drawn is one of the names
pub among : {A : Type 0} (same : A → A → Bool) (ds : List A) (xs : List ℕ) (r : A) → length xs ≡ length ds → is_drawn same ds r ≡ true → list_any (λ x. x == name_for same ds xs r) xs ≡ true
among same [] xs r l i = absurd (both_ways _ refl i)
among same (d ∷ ds) [] r l i = absurd (omega arith)
among same (d ∷ ds) (x ∷ xs) r l i = go (same d r) i (among same ds xs r (omega arith))
  where
    go : (b : Bool) → (b || is_drawn same ds r) ≡ true → (is_drawn same ds r ≡ true → list_any (λ y. y == name_for same ds xs r) xs ≡ true) → ((x == cond b x (name_for same ds xs r)) || list_any (λ y. y == cond b x (name_for same ds xs r)) xs) ≡ true
    go true i h = ap (λ c. c || list_any (λ y. y == x) xs) (eq-eqb x x refl)
    go false i h = or_right (x == name_for same ds xs r) (h i)
      where
        or_right : (c : Bool) {d : Bool} → d ≡ true → (c || d) ≡ true
        or_right true j = refl
        or_right false j = j

clash : {A : Type 0} (x : A) → Some x ≡ None → ⊥
clash x e = cc

-- the index of one replication
only_index : (i : ℕ) (b : Bool) → (b || false) ≡ true → b ≡ true
only_index i true e = refl
only_index i false e = e

text : Text
unfolding size names_assigned call_of callings_from index_draws body_draws finds_in bounds_above sites_from IsDistinct
text = record {
  g = setting;
  calls = inlined_calls_of one_sender 50 drawn;
  sites = sites_of setting one_sender.game one_sender.functions;
  answer = answer;
  side_tape = blank;
  game_tape = blank;
  key_length = 0;
  role = role;
  drawn = λ y. list_any (λ x. x == y) drawn_names;
  has = λ s v. is_drawn same_role roles (Variable s v);
  constant = λ x. false;
  arity = λ s. 1;
  finds = λ s q. is_drawn same_find finds_drawn (s, q);
  opens = λ s q o b. is_drawn same_role roles (Index s q o b 0);
  no_constant = λ y e. refl;
  constants = λ x e. absurd (both_ways _ refl e);
  drawn_key = refl;
  drawn_at = λ s v h. among same_role roles drawn_names (Variable s v) refl h;
  drawn_indices = λ s q o b k op l. among same_role roles drawn_names (Index s q o b k) refl (at_zero s q o b k op l);
  key_role = refl;
  variables = λ s v h. found_again same_role same_role_exact game_role roles drawn_names (Variable s v) refl names_apart h;
  indices = λ s q o b k op l. found_again same_role same_role_exact game_role roles drawn_names (Index s q o b k) refl names_apart (at_zero s q o b k op l);
  answers = λ s. answer_gone (s == 0);
  key_apart = λ s. answer_apart (s == 0);
}
  where
    at_zero : (s q o b k : ℕ) → is_drawn same_role roles (Index s q o b 0) ≡ true → k < 1 → is_drawn same_role roles (Index s q o b k) ≡ true
    at_zero s q o b k op l = subst (λ k. is_drawn same_role roles (Index s q o b k) ≡ true) (let e : 0 ≡ k = omega arith in e) op

    names_apart : IsDistinct ◌==◌ drawn_names
    names_apart = ((refl, (refl, (refl, (refl, tt)))), ((refl, (refl, (refl, tt))), ((refl, (refl, tt)), ((refl, tt), (tt, tt)))))

    answer_gone : (b : Bool) → role (cond b 60 61) ≡ Gone
    answer_gone true = refl
    answer_gone false = refl

    answer_apart : (b : Bool) → (50 == cond b 60 61) ≡ false
    answer_apart true = refl
    answer_apart false = refl

replications_of : Option Calling → List (ℕ × ℕ)
replications_of None = []
replications_of (Some c) = c.caller.replications

one_of_two : (b c : Bool) → (b || (false || (c || (false || false)))) ≡ true → (b ≡ true) ⊎ (c ≡ true)
one_of_two true c e = inl refl
one_of_two false true e = inr refl
one_of_two false false e = absurd (both_ways _ refl e)

alone : (b : Bool) → (b || (false || false)) ≡ true → b ≡ true
alone true e = refl
alone false e = e

tapes : AreLikeTapes text
unfolding text size names_assigned call_of callings_from index_draws body_draws finds_in
tapes = record { chosen = λ x w e. refl; key = λ w. refl; key_gone = refl }

fine : AreFineInputs text one_sender.game
unfolding text IsFineContext IsFineIn reads_only binds replications_of size names_assigned call_of callings_from index_draws body_draws finds_in
fine = (
  tt,
  none,
  (
    tt,
    refl,
    (
      tt,
      (
        (tt, message, (((inl (refl, refl), tt), (λ c e. ((inr (inl (refl, ap (λ o. index_terms (replications_of o)) (sym e))), tt), tt))))),
        (tt, pair, (λ c e. (inr (inl (refl, ap (λ o. index_terms (replications_of o)) (sym e))), (tt, ((inl (refl, refl), tt), (tt, tt)), (tt, tt, tt))))),
      ),
    ),
  ),
)
  where
    none : (y : ℕ) → false ≡ true → role y ≡ Plain
    none y e = absurd (both_ways _ refl e)

    message : (y : ℕ) → ((y == 52) || (false || false)) ≡ true → role y ≡ Plain
    message y e = subst (λ z. role z ≡ Plain) (sym (eqb-true y 52 (alone (y == 52) e))) refl

    pair : (y : ℕ) → ((y == 54) || (false || ((y == 55) || (false || false)))) ≡ true → role y ≡ Plain
    pair y e = go (one_of_two (y == 54) (y == 55) e)
      where
        go : ((y == 54) ≡ true) ⊎ ((y == 55) ≡ true) → role y ≡ Plain
        go (inl i) = subst (λ z. role z ≡ Plain) (sym (eqb-true y 54 i)) refl
        go (inr i) = subst (λ z. role z ≡ Plain) (sym (eqb-true y 55 i)) refl

-- at the first value of a replication's index

found_at : (i x : ℕ) → ((i == x) || false) ≡ true → (v : ℕ) × (cond (i == x) (Some 0) None ≡ Some v)
found_at i x e = (0, ap (λ b. cond b (Some 0) None) (only_index i (i == x) e))

off_at : (on : ℕ → Bool) (i y : ℕ) → on i ≡ false → on y ≡ true → ◌≡◌ {A = Option ℕ} (cond (i == y) (Some 0) None) None
off_at on i y f e = go (i == y) refl
  where
    go : (b : Bool) → (i == y) ≡ b → ◌≡◌ {A = Option ℕ} (cond b (Some 0) None) None
    go true q = absurd (both_ways _ f (ap on (eqb-true i y q) ∙ e))
    go false q = refl

not_index : (on : ℕ → Bool) (i y : ℕ) → on i ≡ false → on y ≡ true → ((i == y) || false) ≡ false
not_index on i y f e = go (i == y) refl
  where
    go : (b : Bool) → (i == y) ≡ b → (b || false) ≡ false
    go true q = absurd (both_ways _ f (ap on (eqb-true i y q) ∙ e))
    go false q = refl

replication_at : (i x : ℕ) → role i ≡ Replication → ((i == x) || false) ≡ true → role x ≡ Replication
replication_at i x r e = subst (λ z. role z ≡ Replication) (eqb-true i x (only_index i (i == x) e)) r

sender_here : IsHere text sender.caller ((51, 0) ∷ [])
unfolding text value IsFineKeyTerm
sender_here = record {
  free = λ y e. off_at (λ y. list_any (λ x. x == y) drawn_names) 51 y refl e;
  no_index = λ x e. absurd (both_ways _ refl e);
  not_own = λ x e. absurd (both_ways _ refl e);
  terms = λ n. refl;
  replications = λ x e. replication_at 51 x refl e;
  found = λ x e. found_at 51 x e;
  arity = refl;
  apart = λ x e. off_at (λ x. is_plain (role x)) 51 x refl e;
  key_terms = tt;
  chosen = λ z h. refl;
  picked = λ q h. refl;
}

receiver_here : IsHere text receiver.caller ((53, 0) ∷ [])
unfolding text value IsFineKeyTerm
receiver_here = record {
  free = λ y e. off_at (λ y. list_any (λ x. x == y) drawn_names) 53 y refl e;
  no_index = λ x e. absurd (both_ways _ refl e);
  not_own = λ x e. absurd (both_ways _ refl e);
  terms = λ n. refl;
  replications = λ x e. replication_at 53 x refl e;
  found = λ x e. found_at 53 x e;
  arity = refl;
  apart = λ x e. off_at (λ x. is_plain (role x)) 53 x refl e;
  key_terms = tt;
  chosen = λ z h. refl;
  picked = λ q h. refl;
}

zero_one : ◌≡◌ {A = ℕ} 1 0 → ⊥
zero_one e = omega arith

one_zero : ◌≡◌ {A = ℕ} 0 1 → ⊥
one_zero e = omega arith

sender_expected : (m : Store) → m 60 (0 ∷ []) ≡ None → is_some (m 50 []) ≡ true → IsExpectedCall text sender.caller m ((51, 0) ∷ []) []
unfolding text value needed size names_assigned call_of callings_from
sender_expected m fresh key = record {
  here = sender_here;
  fresh = fresh;
  key_value = refl;
  key_length = refl;
  key_chosen = key;
  stays = (λ e. record { found = λ x i. found_at 51 x i; value = λ later l. refl; assigned = λ later l. tt }, ((λ e. absurd (zero_one e)), tt));
}

receiver_expected : (m : Store) → m 61 (0 ∷ []) ≡ None → is_some (m 50 []) ≡ true → IsExpectedCall text receiver.caller m ((53, 0) ∷ []) []
unfolding text value needed size names_assigned call_of callings_from
receiver_expected m fresh key = record {
  here = receiver_here;
  fresh = fresh;
  key_value = refl;
  key_length = refl;
  key_chosen = key;
  stays = ((λ e. absurd (one_zero e)), (λ e. record { found = λ x i. found_at 53 x i; value = λ later l. refl; assigned = λ later l. tt }, tt));
}

sender_fine : (m : Store) (fresh : m 60 (0 ∷ []) ≡ None) (key : is_some (m 50 []) ≡ true) → IsFineCalling text sender.caller sender.function ((51, 0) ∷ []) (sender_expected m fresh key).here (chain (at 52 51 ∷ []))
unfolding text sender_expected size names_assigned call_of callings_from index_draws body_draws finds_in bounds_above sites_from reads_only IsFineCall IsFineBody IsFineTerm IsFineKeyTerm
sender_fine m fresh key = record {
  function = refl;
  no_coins = refl;
  body = (refl, ((λ e. absurd (clash _ e)), ((λ e. absurd (clash _ e)), tt)));
  plain_arguments = refl;
  sites = (
    record { number = refl; bound = λ b. refl; bounds = refl; arity = refl; own = λ x e. not_index (λ x. is_plain (role x)) 51 x refl e; key_terms = tt },
    (record { number = refl; bound = λ b. refl; bounds = refl; arity = refl; own = λ x e. not_index (λ x. is_plain (role x)) 53 x refl e; key_terms = tt }, tt),
  );
}

receiver_fine : (m : Store) (fresh : m 61 (0 ∷ []) ≡ None) (key : is_some (m 50 []) ≡ true) → IsFineCalling text receiver.caller receiver.function ((53, 0) ∷ []) (receiver_expected m fresh key).here (chain (at 54 53 ∷ at 55 53 ∷ []))
unfolding text receiver_expected size names_assigned call_of callings_from index_draws body_draws finds_in bounds_above sites_from reads_only IsFineCall IsFineBody IsFineTerm IsFineKeyTerm
receiver_fine m fresh key = record {
  function = refl;
  no_coins = refl;
  body = (
    refl,
    (
      refl,
      (
        refl,
        (
          ((λ e. (refl, inl ((refl, tt), (((λ e. absurd (clash _ e)), refl), (refl, ((λ e. absurd (clash _ e)), ((λ e. absurd (clash _ e)), tt)))), refl, tt))), tt),
          (((λ e. absurd (both_ways _ refl e)), tt), tt),
        ),
        tt,
      ),
    ),
  );
  plain_arguments = refl;
  sites = (
    record { number = refl; bound = λ b. refl; bounds = refl; arity = refl; own = λ x e. not_index (λ x. is_plain (role x)) 51 x refl e; key_terms = tt },
    (record { number = refl; bound = λ b. refl; bounds = refl; arity = refl; own = λ x e. not_index (λ x. is_plain (role x)) 53 x refl e; key_terms = tt }, tt),
  );
}

visited : AllByRecursion (IsExpected text) (visits_of_run (context_setting text) Events asker one_sender.game blank)
unfolding text visits_of_run run_visits run_from visits_of_move moved taken inputs_of visits serve step value put bound_to reply body_answer branch_answer body_value picks picks_at picked put_at tuples_up_to size names_assigned call_of callings_from index_draws body_draws finds_in bounds_above sites_from binds
visited = (
  (λ y e. absurd (both_ways _ refl e)),
  (
    refl,
    (
      tt,
      (
        message,
        (
          tt,
          (
            record { calling = sender; at_site = refl; number = refl; answer = refl; no_index = refl; no_constant = refl; expected = sender_expected _ refl refl; fine = sender_fine _ refl refl },
            (
              tt,
              (
                pair,
                (record { calling = receiver; at_site = refl; number = refl; answer = refl; no_index = refl; no_constant = refl; expected = receiver_expected _ refl refl; fine = receiver_fine _ refl refl }, (tt, (tt, (tt, (tt, tt))))),
              ),
            ),
          ),
        ),
      ),
    ),
  ),
)
  where
    message : (y : ℕ) → ((y == 52) || (false || false)) ≡ true → put nowhere 50 [] 0 y (0 ∷ []) ≡ None
    message y e = subst (λ z. put nowhere 50 [] 0 z (0 ∷ []) ≡ None) (sym (eqb-true y 52 (alone (y == 52) e))) refl

    pair : (y : ℕ) → ((y == 54) || (false || ((y == 55) || (false || false)))) ≡ true → put (put (put nowhere 50 [] 0) 52 (0 ∷ []) 1) 60 (0 ∷ []) 1 y (0 ∷ []) ≡ None
    pair y e = go (one_of_two (y == 54) (y == 55) e)
      where
        go : ((y == 54) ≡ true) ⊎ ((y == 55) ≡ true) → put (put (put nowhere 50 [] 0) 52 (0 ∷ []) 1) 60 (0 ∷ []) 1 y (0 ∷ []) ≡ None
        go (inl i) = subst (λ z. put (put (put nowhere 50 [] 0) 52 (0 ∷ []) 1) 60 (0 ∷ []) 1 z (0 ∷ []) ≡ None) (sym (eqb-true y 54 i)) refl
        go (inr i) = subst (λ z. put (put (put nowhere 50 [] 0) 52 (0 ∷ []) 1) 60 (0 ∷ []) 1 z (0 ∷ []) ≡ None) (sym (eqb-true y 55 i)) refl

pub is_met : (T : Text) × (T.g ≡ setting) × (T.calls ≡ inlined_calls_of one_sender 50 drawn) × IsTextOf T Events asker one_sender.game × (length (visits_of_run (context_setting T) Events asker one_sender.game T.side_tape) ≡ 13)
unfolding text visits_of_run run_visits run_from visits_of_move moved taken inputs_of visits serve step value put bound_to reply body_answer branch_answer body_value picks picks_at picked put_at tuples_up_to size names_assigned call_of callings_from index_draws body_draws finds_in bounds_above sites_from
is_met = (text, refl, refl, record { fine = fine; tapes = tapes; asked = tt; coins = tt; visited = visited }, refl)
