-- Firing live kills on a known table (specs/Firing): 26, 21, or the successor, from what the code has at hand.
use mathlib.Core.Path.{◌≡◌, refl, sym, ap, subst, ◌∙◌}
use mathlib.Core.Option.{Option, none, some}
use mathlib.Core.Logic.{◌≢◌}
use mathlib.Core.List.{List, [], ◌∷◌, map}
use Prim.Native.Nat.{ℕ, zero, suc, ◌+◌, ◌*◌, ◌-◌, ◌/◌, ◌≤◌, ◌<◌}
use native.Mathlib.Omega.{arith}
use lib.ListN.{length, get_or}
use borrow.Author.Tests.{lt-ltb, le-ltb}
use Rattle.std.specs.Prelude as rust
use Rattle.records.specs.Answers.{found_of}
use Rattle.cows.specs.Basics.{All, place_if, Result, refuse, accept, ◌>>◌, forbid}
use Rattle.cows.specs.Terms.{delimitation, Term, size}
use Rattle.cows.specs.Kinds.{kind_of, open_kinds}
use Rattle.cows.specs.Places.{sub}
use Rattle.cows.specs.Format.{encode}
use Rattle.cows.specs.Step.{reply_to, written}
use Rattle.cows.specs.Run.{counted}
use Rattle.cows.specs.Within.{Within}
use Rattle.cows.proofs.Places.{spot_under}
use Rattle.cows.proofs.Format.{length-encode}
use Rattle.joint.specs.Joint.{label_at, first_clash, after_joint, joint_at, tally_for}
use Rattle.joint.specs.Listed.{LiveKill, HasScope}
use Rattle.joint.proofs.Stops.{live-stop}
use Rattle.joint.proofs.Judging.{accepted-live, passed_joint}
use Rattle.joint.proofs.Listing.{number_passed, scope_stands}
use Rattle.joint.proofs.Theorems.{joint_records}
use Rattle.records.specs.Rewrites.{put, StandsIn, Rewritable, Rewrites}
use Rattle.records.proofs.StandsIn.{whole_stands, holds_stands, stands_kind}
use Rattle.records.proofs.Rewrites.{ready}
use Rattle.rewriting.specs.Aligned.{Aligned}
use Rattle.rewriting.specs.Halting.{PlaceOf}
use Rattle.rewriting.proofs.Aligned.{placed_at, place_of}
use Rattle.ways.specs.Known.{Table}
use Rattle.ways.proofs.KnownTables.{one_table, table_size}
use Rattle.stepper.proofs.Stepping.{refused_answers}
use Rattle.stepper.proofs.Moved.{put-encode}
use Rattle.tally.specs.Counted.{tally_of}
use Rattle.player.specs.declared.Played.{Played}
use Rattle.player.specs.Nights.{refused_with}
use Rattle.kill.specs.Killing.{kill_scope}
use Rattle.settling.specs.Settling.{settle_at, Scopes}
use Rattle.settling.proofs.Meaning.{ScopesOf, kill-inside, settle_joint}
use Rattle.overlaps.specs.Overlaps.{first_overlap, AllBefore}
use Rattle.stopper.specs.Firing.{CanFire, fire_term}
use Rattle.stopper.specs.Claims.{JointAnswers}
use Rattle.stopper.proofs.Planned.{scope_there}
use Rattle.stopper.proofs.Scopes.{scopes_before, clash_none, clash_some}

-- what was not found is none
pub not_found : (o : Option ℕ) (r : rust.Option ℕ) → ((i : ℕ) → r ≢ rust.Some i) → r ≡ found_of o → o ≡ none
not_found none r miss e = refl
not_found (some i) r miss e = absurd (miss i e)

-- the answers to a refusal
pub refused_jointly : {x : Result Term} {ps out : List ℕ} {r : Played} (n p : ℕ) → x ≡ refuse n p → r ≡ refused_with n p → JointAnswers x ps out out r
unfolding tally_for
refused_jointly n p e q = record { answers = refused_answers n p e (ap (λ r. r.reply) q); tallied = ap (λ r. r.tally) q ∙ rw e }

-- What firing comes to: 26, 21 or the successor.
module _ (t : Term) (ps : List ℕ) (room : ℕ) where
  pub fire-clash : (a : ℕ) → first_clash t [] ps ≡ some a → fire_term t ps room ≡ refuse 26 a
  unfolding fire_term forbid ◌>>◌
  fire-clash a e = rw e

  pub fire_short : first_clash t [] ps ≡ none → room < 16 * size (after_joint t ps) → fire_term t ps room ≡ refuse 21 0
  unfolding fire_term forbid ◌>>◌ place_if
  fire_short e l = rw (e, lt-ltb room (16 * size (after_joint t ps)) l)

  pub fire_fits : first_clash t [] ps ≡ none → 16 * size (after_joint t ps) ≤ room → fire_term t ps room ≡ accept (after_joint t ps)
  unfolding fire_term forbid ◌>>◌ place_if
  fire_fits e l = rw (e, le-ltb room (16 * size (after_joint t ps)) l)

-- the scopes of live kills, and that they stand where settling needs them
scopes_of : (t : Term) (ps : List ℕ) → Within t → All (LiveKill t) ps → ScopesOf t (map (kill_scope t) ps) ps
scopes_of t [] w ls = tt
scopes_of t (a ∷ ps) w ls = (scope_there t w a ls.0, scopes_of t ps w ls.1)

module _ (s ends : List ℕ) (t : Term) (h : Table s ends t) where
  abbrev Ready : ℕ → ℕ → Type 0
  Ready q a = (get_or s (16 * q) 0 ≡ 8) × PlaceOf s ends (16 * q + 16) (16 * a)

  scope_ready : (q a : ℕ) → HasScope t a q → Ready q a
  unfolding open_kinds size
  scope_ready q a z =
      let m = scope_stands t a q z in
      let (low, high) = kill-inside t h.within a q z.body (live-stop t a z.live) m in
      let (k, f, _) = spot_under t q (delimitation (label_at t a)) z.body m.placed m.stands in
      let e : 16 * suc q ≡ 16 * q + 16 = omega arith in (
        stands_kind (sub t q) (holds_stands s t q h.holds m.placed) ∙ ap kind_of m.stands,
        rw e at (place_of t (suc q) a h.holds h.end k (omega arith) (omega (arith, ap size f))),
      )

  ready_at : (qs ps : List ℕ) → ScopesOf t qs ps → (i : ℕ) → i < length qs → Ready (get_or qs i 0) (get_or ps i 0)
  ready_at [] [] z i l = absurd (omega arith)
  ready_at [] (a ∷ ps) z i l = absurd z
  ready_at (q ∷ qs) [] z i l = absurd z
  ready_at (q ∷ qs) (a ∷ ps) z zero l = scope_ready q a z.0
  ready_at (q ∷ qs) (a ∷ ps) z (suc i) l = ready_at qs ps z.1 i (omega arith)

  as_many : (qs ps : List ℕ) → ScopesOf t qs ps → length qs ≡ length ps
  as_many [] [] z = refl
  as_many [] (a ∷ ps) z = absurd z
  as_many (q ∷ qs) [] z = absurd z
  as_many (q ∷ qs) (a ∷ ps) z = ap suc (as_many qs ps z.1)

  scopes_ready : (qs ps : List ℕ) → ScopesOf t qs ps → Scopes s ends qs ps
  scopes_ready qs ps z = record { as_many = as_many qs ps z; delimits = λ i l. (ready_at qs ps z i l).0; holds = λ i l. (ready_at qs ps z i l).1 }

-- From what the code has at hand.
module _ {s ends ps scopes : List ℕ} {gone : ℕ} (q : CanFire s ends ps scopes gone) where
  abbrev t : Term
  t = q.join.known.term

  abbrev h : Table s ends t
  h = q.join.known.table

  live : All (LiveKill t) ps
  live = accepted-live t ps q.all_are_live

  pub all_before : AllBefore (length ends) scopes
  all_before = subst (AllBefore (length ends)) (sym q.scopes_are) (scopes_before s ends t h ps live)

  -- the table has one term
  for_table : {out after : List ℕ} {r : Played} → JointAnswers (fire_term t ps (length out)) ps out after r → (u : Term) → Table s ends u → JointAnswers (fire_term u ps (length out)) ps out after r
  for_table {out} {after} {r} a u k = subst (λ u. JointAnswers (fire_term u ps (length out)) ps out after r) (one_table s ends t u h k) a

  -- the first that clashes, by its index
  module _ {i : ℕ} (e : first_overlap ends [] scopes ≡ some i) where
    clash_at : (k : ℕ) × (i ≡ 0 + k) × (k < length ps) × (first_clash t [] ps ≡ some (get_or ps k 0))
    clash_at = clash_some s ends t h [] ps tt live i (ap (first_overlap ends []) (sym q.scopes_are) ∙ e)

    pub clash_inside : i < length ps
    clash_inside = let w = clash_at in omega (arith, w.1, w.2)

    pub clash-told : {out : List ℕ} {r : Played} {a : ℕ} → a ≡ get_or ps i 0 → r ≡ refused_with 26 a
        → (u : Term) → Table s ends u → JointAnswers (fire_term u ps (length out)) ps out out r
    clash-told {out} {r} {a} z k =
        let w = clash_at in
        for_table (refused_jointly 26 a (fire-clash t ps (length out) a (w.3 ∙ ap some (ap (λ n. get_or ps n 0) (omega (arith, w.1)) ∙ sym z))) k)

  -- no two of them clash
  module _ (e : first_overlap ends [] scopes ≡ none) where
    apart : first_clash t [] ps ≡ none
    apart = clash_none s ends t h [] ps tt live (ap (first_overlap ends []) (sym q.scopes_are) ∙ e)

    abbrev left : Term
    left = after_joint t ps

    accepted : joint_at t ps ≡ accept left
    accepted = passed_joint t ps (number_passed ps q.join.number, q.all_are_live, apart)

    records : size t ≡ size left + gone
    records = omega (arith, joint_records t left ps h.within accepted, q.gone_are)

    pub gone_fits : gone ≤ length s / 16
    gone_fits = omega (arith, table_size s ends t h, records)

    left_is : length s / 16 - gone ≡ size left
    left_is = omega (arith, table_size s ends t h, records)

    pub short_told : {out : List ℕ} {r : Played} → length out / 16 < length s / 16 - gone → r ≡ refused_with 21 0
        → (u : Term) → Table s ends u → JointAnswers (fire_term u ps (length out)) ps out out r
    short_told {out} k z = for_table (refused_jointly 21 0 (fire_short t ps (length out) apart (omega (arith, left_is))) z)

    settled : settle_at scopes ps 0 t ≡ left
    settled = ap (λ qs. settle_at qs ps 0 t) q.scopes_are ∙ settle_joint t (map (kill_scope t) ps) ps h.within (scopes_of t ps h.within live)

    stands : StandsIn s 0 t
    stands = whole_stands t h.holds.is

    -- there is room
    module _ {out : List ℕ} (room : length s / 16 - gone ≤ length out / 16) where
      pub settle_asks : Rewritable (settle_at scopes ps 0) s 0 out 0 × Aligned s ends 0 × Scopes s ends scopes ps
      settle_asks = (
        ready t stands (omega (arith, ap (λ r. length (encode r)) settled, length-encode left, left_is)),
        placed_at 0 h.end,
        subst (λ qs. Scopes s ends qs ps) (sym q.scopes_are) (scopes_ready s ends t h (map (kill_scope t) ps) ps (scopes_of t ps h.within live)),
      )

      pub fired_told : {after : List ℕ} {n m : ℕ} {r : Played} → Rewrites (settle_at scopes ps 0) s 0 out 0 after n m
          → r.reply ≡ record { answer = 0; place = 0; records = length s / 16 - gone } → r.tally ≡ tally_of (counted 0 (length ps) 0 0)
          → (u : Term) → Table s ends u → JointAnswers (fire_term u ps (length out)) ps out after r
      unfolding reply_to written tally_for
      fired_told w y z = for_table
          (rw (fire_fits t ps (length out) apart (omega (arith, left_is))) (record {
            answers = record {
              replies = y ∙ rw left_is;
              output = (w.done t stands).bytes ∙ (ap (λ x. put out 0 (encode x)) settled ∙ put-encode out left (omega (arith, left_is)));
            };
            tallied = z;
          }))
