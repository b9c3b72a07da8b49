-- The pass over the tokens, token by token.
use Rattle.std.proofs.Common.{◌≡◌, ℕ, suc, ◌+◌, ◌<◌, ◌≤◌, List, [], ◌∷◌, ◌++◌, length, drop, take, Option, Some, None, true, false, ap, sym, ◌∙◌, subst, arith, codes, if◌then◌else◌, append_assoc}
use Rattle.std.specs.Str.{bytes_eq}
use Rattle.std.proofs.Math.Seq.{take-append_seam}
use Rattle.std.proofs.lemmas.List.{append-nil, drop_more, drop_all, length_push}
use Rattle.cv_lex.specs.declared.TokenKind.{TokenKind}
use Rattle.cv_lex.specs.declared.TokenKind.TheVariants as kind
use Rattle.cv_lex.specs.Lexis.{Token, IsToken, end_token}
use Rattle.cv_lex.specs.View.{token_at, AreTokens}
use Rattle.cv_lex.proofs.Places.{last_token, inner_token}
use Rattle.cv_lex.proofs.Pieces.{token_not_end}
use Rattle.cv_parse_notation.specs.declared.script.ScriptWord.TheVariants.{Plain}
use Rattle.cv_parse_notation.specs.declared.sign.Mark.{Mark}
use Rattle.cv_parse_notation.specs.declared.sign.Sign.{Sign}
use Rattle.cv_parse_notation.specs.declared.sign.Sign.TheVariants as sign
use Rattle.cv_parse_tables.specs.declared.terminals.pass.Counts.{Counts}
use Rattle.cv_parse_tables.specs.spelling.Spelling.{mark_of_text}
use Rattle.cv_parse_tables.specs.terminals.Signs.{Step, no_counts, one_find, join, go_on, step_before, unnamed_step, unnamed_name, is_unnamed, first_text, token_step, text_step, word_step, signs_from, place_of, with_name}
use Rattle.cv_parse_tables.proofs.terminals.Naming.{length_with_name, with_name_behind}

-- A token adds at most one name behind the others, one `find` word and one collision without a name
pub record IsSmall (names : List (List ℕ)) (counts : Counts) (s : Step) : Type 0 where
  pub names_more : length s.names ≤ length names + 1
  pub names_behind : (more : List (List ℕ)) × (s.names ≡ names ++ more)
  pub finds_more : s.counts.finds ≤ counts.finds + 1
  pub unnamed_more : s.counts.unnamed ≤ counts.unnamed + 1

small_word : (names : List (List ℕ)) (counts : Counts) (text : List ℕ) → IsSmall names counts (word_step names counts text)
small_word names counts text =
    elim (bytes_eq text (codes "find")) as (λ b. IsSmall names counts (if b then (record { signs = sign.Find (suc counts.finds) ∷ []; names = names; counts = one_find counts }) else (record { signs = sign.Word (place_of names text) Plain ∷ []; names = with_name names text; counts = counts }))) [
      | true ↦ record { names_more = omega arith; names_behind = ([], sym (append-nil names)); finds_more = omega arith; unnamed_more = omega arith }
      | false ↦ record { names_more = length_with_name names text; names_behind = with_name_behind names text; finds_more = omega arith; unnamed_more = omega arith }
    ]

small_text : (names : List (List ℕ)) (counts : Counts) (text : List ℕ) (m : Option Mark) → IsSmall names counts (text_step names counts text m)
small_text names counts text (Some m) = record { names_more = omega arith; names_behind = ([], sym (append-nil names)); finds_more = omega arith; unnamed_more = omega arith }
small_text names counts text None = small_word names counts text

small_token : (names : List (List ℕ)) (counts : Counts) (k : TokenKind) (text : List ℕ) → IsSmall names counts (token_step names counts k text)
small_token names counts kind.Ident text = small_text names counts text (mark_of_text text)
small_token names counts kind.Symbol text = small_text names counts text (mark_of_text text)
small_token names counts (kind.Number v) text = record { names_more = omega arith; names_behind = ([], sym (append-nil names)); finds_more = omega arith; unnamed_more = omega arith }
small_token names counts kind.End text = record { names_more = omega arith; names_behind = ([], sym (append-nil names)); finds_more = omega arith; unnamed_more = omega arith }

pub small : (names : List (List ℕ)) (counts : Counts) (k : TokenKind) (text next : List ℕ) → IsSmall names counts (step_before names counts k text next)
small names counts k text next =
    elim (is_unnamed text next) as (λ b. IsSmall names counts (if b then unnamed_step names counts else token_step names counts k text)) [
      | true ↦ record { names_more = length_with_name names (unnamed_name (suc counts.unnamed)); names_behind = with_name_behind names (unnamed_name (suc counts.unnamed)); finds_more = omega arith; unnamed_more = omega arith }
      | false ↦ small_token names counts k text
    ]

-- the pass at a token, by its step
pub signs_from_cons : (names : List (List ℕ)) (counts : Counts) (t : Token) (ts : List Token) (s : Step) → step_before names counts t.kind t.text (first_text ts) ≡ s → signs_from names counts (t ∷ ts) ≡ join s.signs (signs_from s.names s.counts ts)
unfolding signs_from
signs_from_cons names counts t ts s e = ap (go_on (λ n c. signs_from n c ts)) e

-- From one token on, with names that were there, the pass is done so far: what is left gives the rest.
pub record IsReached (start : List (List ℕ)) (ts : List Token) (from : ℕ) (signs : List Sign) (names : List (List ℕ)) (counts : Counts) (k : ℕ) : Type 0 where
  pub all : signs_from start no_counts (drop from ts) ≡ join signs (signs_from names counts (drop k ts))
  pub behind : (more : List (List ℕ)) × (names ≡ start ++ more)
  pub names_few : length names + from ≤ length start + k
  pub finds_few : counts.finds + from ≤ k
  pub unnamed_few : counts.unnamed + from ≤ k
  pub count : from + length signs ≡ k

-- what was there stays in front
pub kept_in_front : (start names more : List (List ℕ)) → names ≡ start ++ more → take (length start) names ≡ start
kept_in_front start names more e = ap (take (length start)) e ∙ take-append_seam start more

-- also behind one more token
pub step_keeps : (start : List (List ℕ)) (ts : List Token) (from : ℕ) (signs : List Sign) (names : List (List ℕ)) (counts : Counts) (k : ℕ) → IsReached start ts from signs names counts k → (w : TokenKind) (text next : List ℕ) (s : Sign) (names' : List (List ℕ)) (counts' : Counts) → step_before names counts w text next ≡ record { signs = s ∷ []; names = names'; counts = counts' } → take (length start) names' ≡ start
step_keeps start ts from signs names counts k r w text next s names' counts' e =
    let more = (small names counts w text next).names_behind in
    kept_in_front start names' (r.behind.0 ++ more.0) (ap (λ (x : Step). x.names) (sym e) ∙ (more.1 ∙ (ap (λ l. l ++ more.0) r.behind.1 ∙ append_assoc start r.behind.0 more.0)))

reached_next : (start : List (List ℕ)) (ts : List Token) (from : ℕ) (signs : List Sign) (names : List (List ℕ)) (counts : Counts) (k : ℕ) → IsReached start ts from signs names counts k → k < length ts → (s : Sign) (names' : List (List ℕ)) (counts' : Counts) → step_before names counts (token_at ts k).kind (token_at ts k).text (first_text (drop (k + 1) ts)) ≡ record { signs = s ∷ []; names = names'; counts = counts' } → IsReached start ts from (signs ++ s ∷ []) names' counts' (k + 1)
reached_next start ts from signs names counts k r h s names' counts' e =
    let next : List ℕ = first_text (drop (k + 1) ts) in
    let few = small names counts (token_at ts k).kind (token_at ts k).text next in
    let same_names : length (step_before names counts (token_at ts k).kind (token_at ts k).text next).names ≡ length names' = ap (λ (x : Step). length x.names) e in
    let same_finds : (step_before names counts (token_at ts k).kind (token_at ts k).text next).counts.finds ≡ counts'.finds = ap (λ (x : Step). x.counts.finds) e in
    let same_unnamed : (step_before names counts (token_at ts k).kind (token_at ts k).text next).counts.unnamed ≡ counts'.unnamed = ap (λ (x : Step). x.counts.unnamed) e in
    let here : drop k ts ≡ token_at ts k ∷ drop (k + 1) ts = drop_more ts k (end_token 0) h in
    record {
      all = r.all ∙ ap (λ l. join signs (signs_from names counts l)) here ∙ ap (join signs) (signs_from_cons names counts (token_at ts k) (drop (k + 1) ts) (record { signs = s ∷ []; names = names'; counts = counts' }) e) ∙ ap (λ l. record { signs = l; names = (signs_from names' counts' (drop (k + 1) ts)).names }) (sym (append_assoc signs (s ∷ []) (signs_from names' counts' (drop (k + 1) ts)).signs));
      behind = (
        r.behind.0 ++ few.names_behind.0,
        ap (λ (x : Step). x.names) (sym e) ∙ (few.names_behind.1 ∙ (ap (λ l. l ++ few.names_behind.0) r.behind.1 ∙ append_assoc start r.behind.0 few.names_behind.0)),
      );
      names_few = omega (arith, few.names_more, r.names_few, same_names);
      finds_few = omega (arith, few.finds_more, r.finds_few, same_finds);
      unnamed_few = omega (arith, few.unnamed_more, r.unnamed_few, same_unnamed);
      count = (let pushed = length_push signs s in let before = r.count in omega arith);
    }

-- one more sign is pushed
pub reached_push : (start : List (List ℕ)) (ts : List Token) (from : ℕ) (signs : List Sign) (names : List (List ℕ)) (counts : Counts) (k : ℕ) → IsReached start ts from signs names counts k → k + 1 < length ts → (w : TokenKind) (text next : List ℕ) → w ≡ (token_at ts k).kind → text ≡ (token_at ts k).text → next ≡ (token_at ts (k + 1)).text → (s : Sign) (names' : List (List ℕ)) (counts' : Counts) → step_before names counts w text next ≡ record { signs = s ∷ []; names = names'; counts = counts' } → (signs' : List Sign) → signs' ≡ signs ++ s ∷ [] → IsReached start ts from signs' names' counts' (k + 1)
reached_push start ts from signs names counts k r h w text next kind_is text_is next_is s names' counts' e signs' pushed =
    let ahead : first_text (drop (k + 1) ts) ≡ next = ap first_text (drop_more ts (k + 1) (end_token 0) h) ∙ sym next_is in
    let step : step_before names counts (token_at ts k).kind (token_at ts k).text (first_text (drop (k + 1) ts)) ≡ record { signs = s ∷ []; names = names'; counts = counts' } =
    ap (λ v. step_before names counts v (token_at ts k).text (first_text (drop (k + 1) ts))) (sym kind_is) ∙ ap (λ v. step_before names counts w v (first_text (drop (k + 1) ts))) (sym text_is) ∙ ap (step_before names counts w text) ahead ∙ e
    in
    subst (λ l. IsReached start ts from l names' counts' (k + 1)) (sym pushed) (reached_next start ts from signs names counts k r (omega arith) s names' counts' step)

-- before the end token the pass is over
pub reached_last : (start : List (List ℕ)) (ts : List Token) (are : AreTokens ts) (from : ℕ) (signs : List Sign) (names : List (List ℕ)) (counts : Counts) (k : ℕ) → IsReached start ts from signs names counts k → k + 1 ≡ length ts → signs_from start no_counts (drop from ts) ≡ record { signs = signs; names = names }
unfolding signs_from
reached_last start ts are from signs names counts k r h =
    let below : k < length ts = omega arith in
    let none : drop (k + 1) ts ≡ [] = drop_all (k + 1) ts (omega arith) in
    let here : drop k ts ≡ end_token are.end ∷ [] = drop_more ts k (end_token 0) below ∙ ap (λ t. t ∷ drop (k + 1) ts) (last_token ts are k h) ∙ ap (λ l. end_token are.end ∷ l) none in
    r.all ∙ ap (λ l. join signs (signs_from names counts l)) here ∙ ap (λ l. record { signs = l; names = names }) (append-nil signs)

-- before the end token no token is one
pub no_end_yet : (ts : List Token) → AreTokens ts → (k : ℕ) → k + 1 < length ts → (w : TokenKind) → w ≡ (token_at ts k).kind → w ≡ kind.End → ⊥
no_end_yet ts are k h w e at_end = token_not_end (token_at ts k).text (subst (λ v. IsToken v (token_at ts k).text) (sym e ∙ at_end) (inner_token ts are k h))
