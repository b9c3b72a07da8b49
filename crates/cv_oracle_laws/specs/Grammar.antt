-- The grammar of processes of oracle files, and the phrase of the file for which each of its phrases stands. Blanchet, TDSC 2008, section 2, for
-- the processes of files; the phrases with oracles are written as in CryptoVerif's second front end, and what they stand for is this profile's own.
use Rattle.std.specs.Prelude.{◌≡◌, true, List, [], ◌∷◌, ◌++◌, codes}
use Rattle.cv_lex.specs.declared.TokenKind.TheVariants.{Number}
use Rattle.cv_lex.specs.Lexis.{Token, IsToken}
use Rattle.cv_oracles.specs.Regions.{is_name}
use Rattle.cv_oracle_laws.specs.Tokens.{word, symbol, Is, Lack, IsKept, AreUpTo, AreMatched}

pub data Sort : Type 0 where
  -- oracle definitions side by side, and one
  Inputs Input : Sort
  -- what the oracle with this name does when it is called, and in it what may follow `return`, an `else` or nothing, and the branches of a `find`
  Output Continuation Otherwise Branches : Token → Sort

-- The tokens before the rest are a phrase of the sort; it stands for this in the file, and defines these oracles in the order of the text.
-- What stands between its words, as terms and conditions, is judged in the file.
pub data Stands : Sort → (tokens file oracles rest : List Token) → Type 0 where
  -- Q
  lone : {ts fs os rest : List Token} → Stands Input ts fs os rest → Stands Inputs ts fs os rest
  -- Q | R
  beside : {ts fs os us gs ps rest : List Token} (bar : Token) → Stands Input ts fs os (bar ∷ us) → Is bar (codes "|") → Stands Inputs us gs ps rest →
      Stands Inputs ts (fs ++ bar ∷ gs) (os ++ ps) rest
  -- 0
  nought : {t : Token} {rest : List Token} → t.kind ≡ Number 0 → IsToken t.kind t.text → Stands Input (t ∷ rest) (t ∷ []) [] rest
  -- (Q)
  bracketed : {opener closer : Token} {ts fs os rest : List Token} → Is opener (codes "(") → Stands Inputs ts fs os (closer ∷ rest) → Is closer (codes ")") →
      Stands Input (opener ∷ ts) (opener ∷ fs ++ closer ∷ []) os rest
  -- foreach i <= N do Q: !i <= N Q
  foreach : {head i most n does : Token} {ts fs os rest : List Token} → Is head (codes "foreach") → IsKept i → IsKept most → IsKept n → Is does (codes "do") → Stands Input ts fs os rest →
      Stands Input (head ∷ i ∷ most ∷ n ∷ does ∷ ts) (symbol (codes "!") ∷ i ∷ most ∷ n ∷ fs) os rest
  -- O(x: T, ..) := P: in(O, (x: T, ..)); P
  definition : {o opener : Token} (vs : List Token) (closer becomes : Token) (ts fs os rest : List Token) → is_name o.kind o.text ≡ true → Is opener (codes "(") → AreUpTo (codes ")") vs →
      Is closer (codes ")") → Is becomes (codes ":=") → Stands (Output o) ts fs os rest →
      Stands Input (o ∷ opener ∷ vs ++ closer ∷ becomes ∷ ts)
      (word (codes "in") ∷ symbol (codes "(") ∷ o ∷ symbol (codes ",") ∷ opener ∷ vs ++ closer ∷ symbol (codes ")") ∷ symbol (codes ";") ∷ fs) (o ∷ os) rest
  -- end: yield
  ending : {o t : Token} {rest : List Token} → Is t (codes "end") → Stands (Output o) (t ∷ rest) (word (codes "yield") ∷ []) [] rest
  -- (P)
  parentheses : {o opener closer : Token} {ts fs os rest : List Token} → Is opener (codes "(") → Stands (Output o) ts fs os (closer ∷ rest) → Is closer (codes ")") →
      Stands (Output o) (opener ∷ ts) (opener ∷ fs ++ closer ∷ []) os rest
  -- return: out(O, ())
  returning : {o head : Token} {ts fs os rest : List Token} → Is head (codes "return") → Lack ts (codes "(") → Stands (Continuation o) ts fs os rest →
      Stands (Output o) (head ∷ ts)
      (word (codes "out") ∷ symbol (codes "(") ∷ o ∷ symbol (codes ",") ∷ symbol (codes "(") ∷ symbol (codes ")") ∷ symbol (codes ")") ∷ fs) os rest
  -- return (M, ..): out(O, (M, ..))
  sending : {o head opener : Token} (ms : List Token) (closer : Token) (ts fs os rest : List Token) → Is head (codes "return") → Is opener (codes "(") → AreMatched 0 ms →
      Is closer (codes ")") → Stands (Continuation o) ts fs os rest →
      Stands (Output o) (head ∷ opener ∷ ms ++ closer ∷ ts) (word (codes "out") ∷ symbol (codes "(") ∷ o ∷ symbol (codes ",") ∷ opener ∷ ms ++ symbol (codes ")") ∷ symbol (codes ")") ∷ fs) os rest
  -- nothing, or ; Q
  stopping : {o : Token} {rest : List Token} → Stands (Continuation o) rest [] [] rest
  continuing : {o semicolon : Token} {ts fs os rest : List Token} → Is semicolon (codes ";") → Stands Input ts fs os rest →
      Stands (Continuation o) (semicolon ∷ ts) (semicolon ∷ fs) os rest
  -- x <- R T; P: new x: T; P
  drawing : {o x arrow R T semicolon : Token} {ts fs os rest : List Token} → is_name x.kind x.text ≡ true → Is arrow (codes "<-") → Is R (codes "R") →
      IsKept T → Lack (T ∷ []) (codes ";") → Is semicolon (codes ";") → Stands (Output o) ts fs os rest →
      Stands (Output o) (x ∷ arrow ∷ R ∷ T ∷ semicolon ∷ ts) (word (codes "new") ∷ x ∷ symbol (codes ":") ∷ T ∷ semicolon ∷ fs) os rest
  -- x: T <- M; P: let x: T = M in P
  binding : {o x colon T arrow : Token} (ms : List Token) (semicolon : Token) (ts fs os rest : List Token) → is_name x.kind x.text ≡ true → Is colon (codes ":") → IsKept T →
      Is arrow (codes "<-") → AreUpTo (codes ";") ms → Is semicolon (codes ";") → Stands (Output o) ts fs os rest →
      Stands (Output o) (x ∷ colon ∷ T ∷ arrow ∷ ms ++ semicolon ∷ ts) (word (codes "let") ∷ x ∷ colon ∷ T ∷ symbol (codes "=") ∷ ms ++ word (codes "in") ∷ fs) os rest
  -- event e(M, ..); P
  recording : {o head : Token} (ms : List Token) (semicolon : Token) (ts fs os rest : List Token) → Is head (codes "event") → AreUpTo (codes ";") ms →
      Is semicolon (codes ";") → Stands (Output o) ts fs os rest → Stands (Output o) (head ∷ ms ++ semicolon ∷ ts) (head ∷ ms ++ semicolon ∷ fs) os rest
  -- if M then P, and an `else` or nothing
  testing : {o head : Token} (ms : List Token) (mid : Token) (ts fs os us gs ps rest : List Token) → Is head (codes "if") → AreUpTo (codes "then") ms → Is mid (codes "then") →
      Stands (Output o) ts fs os us → Stands (Otherwise o) us gs ps rest → Stands (Output o) (head ∷ ms ++ mid ∷ ts) (head ∷ ms ++ mid ∷ (fs ++ gs)) (os ++ ps) rest
  -- a `find` with its branches, and an `else` or nothing
  finding : {o head : Token} {ts fs os us gs ps rest : List Token} → Is head (codes "find") → Stands (Branches o) ts fs os us → Stands (Otherwise o) us gs ps rest →
      Stands (Output o) (head ∷ ts) (head ∷ fs ++ gs) (os ++ ps) rest
  -- an `else` belongs to the nearest test that is open, and an `orfind` to the nearest `find`
  nothing : {o : Token} {rest : List Token} → Lack rest (codes "else") → Stands (Otherwise o) rest [] [] rest
  otherwise : {o head : Token} {ts fs os rest : List Token} → Is head (codes "else") → Stands (Output o) ts fs os rest → Stands (Otherwise o) (head ∷ ts) (head ∷ fs) os rest
  -- u <= N, .. suchthat M then P, and others behind `orfind`
  last : {o : Token} (ms : List Token) (mid : Token) (ts fs os rest : List Token) → AreUpTo (codes "then") ms → Is mid (codes "then") → Stands (Output o) ts fs os rest →
      Lack rest (codes "orfind") → Stands (Branches o) (ms ++ mid ∷ ts) (ms ++ mid ∷ fs) os rest
  orfind : {o : Token} (ms : List Token) (mid : Token) (ts fs os : List Token) (again : Token) (us gs ps rest : List Token) → AreUpTo (codes "then") ms → Is mid (codes "then") →
      Stands (Output o) ts fs os (again ∷ us) → Is again (codes "orfind") → Stands (Branches o) us gs ps rest →
      Stands (Branches o) (ms ++ mid ∷ ts) (ms ++ mid ∷ (fs ++ again ∷ gs)) (os ++ ps) rest
