-- The signs of a text in a script, token by token from its end, where the names behind it are known.
use Rattle.std.proofs.Common.{◌≡◌, ℕ, ◌+◌, true, false, ◌&&◌, List, [], ◌∷◌, ◌++◌, length, drop, Ok, refl, ap, sym, ◌∙◌, subst, codes, inl, inr, drop_at}
use Rattle.std.proofs.lemmas.Bool.{cases_eq, ne_eqb}
use Rattle.std.proofs.lemmas.List.{take_at}
use Rattle.cv_lex.specs.declared.TokenKind.{TokenKind}
use Rattle.cv_lex.specs.declared.scan.Piece.TheVariants.{Nothing, Between, Lexeme, ForeignByte}
use Rattle.cv_lex.specs.Lexis.{Token, Lexed, ends, between, token, has_front, piece, end_token}
use Rattle.cv_parse_notation.specs.declared.sign.Sign.{Sign}
use Rattle.cv_parse_tables.specs.terminals.ScriptSigns.{with_word, with_words}
use Rattle.cv_parse_tables.specs.terminals.Signs.{first_text, join, signs_from, step_before}
use Rattle.cv_parse_tables.proofs.terminals.Telling.{IsGrown, grown, grown_more}
use Rattle.cv_parse_tables.proofs.terminals.Walk.{signs_from_cons}
use Rattle.cv_print_bytes.proofs.Shown.{star_is_none}

-- at any offset, in front of which more names and counted words may stand, the text has these signs, where these names are behind it
pub record Reads (names behind : List (List ℕ)) (text : List ℕ) (ss : List Sign) : Type 0 where
  pub tokens : ℕ → List Token
  pub lexed : (k : ℕ) → Lexed k text (Ok (tokens k))
  pub signed : (k : ℕ) (counts : _) (before : List (List ℕ)) → IsGrown names before → (signs_from before counts (tokens k)).names ≡ behind → with_words (tokens k) (signs_from before counts (tokens k)).signs ≡ ss

pub reads_end : {names behind : List (List ℕ)} → Reads names behind [] []
unfolding signs_from
reads_end = record { tokens = λ k. end_token k ∷ []; lexed = λ k. ends refl; signed = λ k counts before g e. refl }

pub reads_blank : {names behind : List (List ℕ)} (b : ℕ) (text : List ℕ) (ss : List Sign) → piece (b ∷ text) ≡ Between 1 → Reads names behind text ss → Reads names behind (b ∷ text) ss
reads_blank b text ss e w = record {
  tokens = λ k. w.tokens (k + 1);
  lexed = λ k. between {k = k} {bs = b ∷ text} {r = Ok (w.tokens (k + 1))} 1 e (w.lexed (k + 1));
  signed = λ k counts before g n. w.signed (k + 1) counts before g n;
}

-- the step of a token behind such names, which has this sign in the end
pub record Steps (behind before : List (List ℕ)) (counts : _) (kind : TokenKind) (w next : List ℕ) (s : Sign) : Type 0 where
  pub sign : Sign
  pub names : List (List ℕ)
  pub is : step_before before counts kind w next ≡ record { signs = sign ∷ []; names = names; counts = counts }
  pub grows : IsGrown before names
  pub says : IsGrown names behind → with_word w sign ≡ s

pub record Means (names behind : List (List ℕ)) (kind : TokenKind) (w : List ℕ) (s : Sign) : Type 0 where
  pub step : (before : List (List ℕ)) (counts : _) (next : List ℕ) → IsGrown names before → Steps behind before counts kind w next s

abbrev token_of : TokenKind → List ℕ → ℕ → Token
token_of kind w k = record { kind = kind; text = w; offset = k }

signed_first : {names behind : List (List ℕ)} (kind : TokenKind) (w : List ℕ) (s : Sign) (k : ℕ) (ts : List Token) (ss : List Sign) (counts : _) (before : List (List ℕ)) → Means names behind kind w s → ((b : List (List ℕ)) → IsGrown names b → (signs_from b counts ts).names ≡ behind → with_words ts (signs_from b counts ts).signs ≡ ss) → IsGrown names before → (signs_from before counts (token_of kind w k ∷ ts)).names ≡ behind → with_words (token_of kind w k ∷ ts) (signs_from before counts (token_of kind w k ∷ ts)).signs ≡ s ∷ ss
signed_first {names = names} {behind = behind} kind w s k ts ss counts before m later g e =
    let st = m.step before counts (first_text ts) g in
    let same : signs_from before counts (token_of kind w k ∷ ts) ≡ join (st.sign ∷ []) (signs_from st.names counts ts) = signs_from_cons before counts (token_of kind w k) ts (record { signs = st.sign ∷ []; names = st.names; counts = counts }) st.is in
    let ended : (signs_from st.names counts ts).names ≡ behind = sym (ap (λ x. x.names) same) ∙ e in
    let more : IsGrown st.names behind = subst (IsGrown st.names) ended (grown st.names counts ts) in
    let here : with_word w st.sign ≡ s = st.says more in
    let there : with_words ts (signs_from st.names counts ts).signs ≡ ss = later st.names (grown_more names before st.names g st.grows) ended in
    ap (λ x. with_words (token_of kind w k ∷ ts) x.signs) same ∙ (λ i. here i ∷ there i)

-- one token in front
pub reads_token : {names behind : List (List ℕ)} (kind : TokenKind) (w text : List ℕ) (s : Sign) (ss : List Sign) → piece (w ++ text) ≡ Lexeme kind (length w) → Means names behind kind w s → Reads names behind text ss → Reads names behind (w ++ text) (s ∷ ss)
reads_token kind w text s ss e m v = record {
  tokens = λ k. token_of kind w k ∷ v.tokens (k + length w);
  lexed = λ k.
      let ts = v.tokens (k + length w) in
      let rest : Lexed (k + length w) (drop (length w) (w ++ text)) (Ok ts) = subst (λ bs. Lexed (k + length w) bs (Ok ts)) (sym (drop_at w text (length w) refl)) (v.lexed (k + length w)) in
      subst (λ x. Lexed k (w ++ text) (Ok (token_of kind x k ∷ ts))) (take_at w text (length w) refl) (token {k = k} {bs = w ++ text} {ts = ts} kind (length w) e rest);
  signed = λ k counts before g n. signed_first kind w s k (v.tokens (k + length w)) ss counts before m (λ b. v.signed (k + length w) counts b) g n;
}

-- no such text begins with '*'

pub no_star : {names behind : List (List ℕ)} (text : List ℕ) (ss : List Sign) → Reads names behind text ss → has_front (codes "*") text ≡ false
no_star [] ss w = refl
no_star (b ∷ bs) ss w =
    elim (cases_eq b 42) [
      | inl e ↦ absurd (star_is_none 0 bs (w.tokens 0) (subst (λ x. Lexed 0 (x ∷ bs) (Ok (w.tokens 0))) e (w.lexed 0)))
      | inr n ↦ ap (λ x. x && true) (ne_eqb b 42 n)
    ]
