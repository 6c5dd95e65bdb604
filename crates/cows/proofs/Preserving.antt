-- A move keeps a term within the limits: each successor is right and well formed, and refusal 20 sees to size and depth.
use mathlib.Core.Path.{◌≡◌, refl, subst, ◌∙◌}
use mathlib.Core.Bool.{true, not, ◌||◌}
use mathlib.Core.Option.{Option, none, some}
use Prim.Native.Nat.{ℕ, ◌≤◌}
use lib.Dec.{eqb}
use lib.ListN.{length}
use borrow.Author.Tests.{not-false}
use Rattle.cows.specs.Basics.{every, place_if, accept, ◌>>◌, forbid}
use Rattle.cows.specs.Terms.{Prefix, receive, wait, protection, delimitation, replication, Term, leaf, under, both, Action, label, size, kills, invokes, prefixed, receives, waits, delimits, replicates, invoke_of}
use Rattle.cows.specs.Places.{way_to, sub, first}
use Rattle.cows.specs.Active.{wanted}
use Rattle.cows.specs.Within.{Right, Formed, Within}
use Rattle.cows.specs.Moves.{Substitution, binds, fit, matched, in_scope, held_back, tighter, silence, continue, bind, fitting, kill_at, communicate_at, timeout_at, elapse_by, unfold_at, extrude_at, Move, Kill, Communicate, Timeout, Elapse, Unfold, Extrude, successor}
use Rattle.cows.specs.Step.{step_term}
use Rattle.cows.proofs.Basics.{or_false, bind-accept, same_accept, forbid-accept, place_if-none}
use Rattle.cows.proofs.Parts.{Sound, part_sound, part_kill, part_silence, part_elapse, part_continue}
use Rattle.cows.proofs.Recordwise.{time_gives}
use Rattle.cows.proofs.Stands.{right_at, wanted_is, invokes_is, looks, prefixed_is}
use Rattle.cows.proofs.Step.{Accepted, step_accepted}
use Rattle.cows.proofs.ExtrudeKeeps.{part_extrude}
use Rattle.cows.proofs.Meeting.{matched-binds}
use Rattle.cows.proofs.CommunicateKeeps.{AllBind, sound_bind, part_bind, all-in-scope, values_fit, invokes_data}
use Rattle.cows.proofs.Silence.{silence-prefix}
use Rattle.cows.proofs.UnfoldKeeps.{sound_after_unfold}

sound_kill : (t s : Term) (a : ℕ) → kill_at t a ≡ accept s → Sound t → Sound s
unfolding kill_at
sound_kill t s a e h =
    let (k, ek, es) = bind-accept (wanted kills t a) _ s e in
    subst Sound (same_accept es) (part_sound (part_kill k t a) h)

sound_elapse : (t s : Term) (d : ℕ) → elapse_by t d ≡ accept s → Sound t → Sound s
sound_elapse t s d e h = subst Sound (time_gives t s d e).1 (part_sound (part_elapse d t) h)

-- a prefix of another kind delimits nothing
other_delimits : {A : Type 0} (kind : Prefix → Option A) → ((d : ℕ) → kind (delimitation d) ≡ none) → (s : Term) (a : A) → prefixed kind s ≡ some a → prefixed delimits s ≡ none
unfolding prefixed delimits
other_delimits kind h (leaf x) a e = refl
other_delimits kind h (under (receive p o ws) t) a e = refl
other_delimits kind h (under (wait n) t) a e = refl
other_delimits kind h (under protection t) a e = refl
other_delimits kind h (under (delimitation d) t) a e = cc (h d)
other_delimits kind h (under replication t) a e = refl
other_delimits kind h (both j s t) a e = refl

sound_timeout : (t s : Term) (a : ℕ) → timeout_at t a ≡ accept s → Sound t → Sound s
unfolding timeout_at waits
sound_timeout t s a e h =
    let (i, ei, e₁) = bind-accept (wanted (prefixed waits) t a) _ s e in
    let (z, e₂) = forbid-accept 16 (place_if (not (eqb i 0)) a) _ s e₁ in
    subst Sound (same_accept e₂)
    (part_sound (part_continue t a (other_delimits waits (λ d. refl) (sub t a) i (wanted_is (prefixed waits) t a i ei))).1 h)

sound_extrude : (t s : Term) (a : ℕ) → extrude_at t a ≡ accept s → Sound t → Sound s
unfolding extrude_at
sound_extrude t s a e h =
    let (d, ed, e₁) = bind-accept (wanted (prefixed delimits) t a) _ s e in
    let (z, e₂) = forbid-accept 18 (place_if (label d || not (fitting (way_to t a))) a) _ s e₁ in
    let fits = not-false (fitting (way_to t a)) (or_false (label d) (not (fitting (way_to t a))) (place_if-none (label d || not (fitting (way_to t a))) a z)).1 in
    subst Sound (same_accept e₂) (part_sound (part_extrude d t a (wanted_is (prefixed delimits) t a d ed) fits) h)

sound_unfold : (t s : Term) (a : ℕ) → unfold_at t a ≡ accept s → size t ≤ 2048 → Sound t → Sound s
unfolding unfold_at
sound_unfold t s a e small h =
    let (x, ex, e₁) = bind-accept (wanted (prefixed replicates) t a) _ s e in
    subst Sound (same_accept e₁) (sound_after_unfold t a (prefixed_is replicates (λ i. replication) (λ u. (looks u).replicating) (sub t a) x (wanted_is (prefixed replicates) t a x ex)) small h)

-- A communication: the invoke is silenced, the receive continues, and the pattern's variables are bound. Before they are, the term is sound, and each may take its value in it.
pub meeting-binds : (t : Term) (a b : ℕ) (r m : Action) (σ : Substitution) → prefixed receives (sub t a) ≡ some r → invokes (sub t b) ≡ some m → fit r m ≡ binds σ
    → every (in_scope t a b) σ ≡ true → Sound t → Sound (continue (silence t b) a) × AllBind (continue (silence t b) a) σ
unfolding receives
meeting-binds t a b r m σ er em ef es h =
    let p = part_silence t b in
    let q = (part_continue (silence t b) a (silence-prefix delimits t b (invoke_of m) (invokes_is (sub t b) m em) a ∙ other_delimits receives (λ d. refl) (sub t a) r er)).1 in
    let pairs = all-in-scope t a b h.1 σ (values_fit r m σ (invokes_data (sub t b) m em (right_at t b h.0)) ef) es in
    (part_sound q (part_sound p h), part_bind q σ (part_bind p σ pairs))

pub scopes_passed : (t : Term) (a b : ℕ) (m : Action) (σ : Substitution) (x s : Term)
    → (forbid 13 (place_if (not (every (in_scope t a b) σ)) a) >> (forbid 14 (first (held_back a b) t) >> (forbid 15 (first (tighter m (length σ)) t) >> accept x))) ≡ accept s
    → (every (in_scope t a b) σ ≡ true) × (x ≡ s)
scopes_passed t a b m σ x s e =
    let (p, e₁) = forbid-accept 13 (place_if (not (every (in_scope t a b) σ)) a) _ s e in
    let (q, e₂) = forbid-accept 14 (first (held_back a b) t) _ s e₁ in
    let (r, e₃) = forbid-accept 15 (first (tighter m (length σ)) t) _ s e₂ in
    (not-false (every (in_scope t a b) σ) (place_if-none (not (every (in_scope t a b) σ)) a p), same_accept e₃)

sound_communicate : (t s : Term) (a b : ℕ) → communicate_at t a b ≡ accept s → Sound t → Sound s
unfolding communicate_at
sound_communicate t s a b e h =
    let (r, er, e₁) = bind-accept (wanted (prefixed receives) t a) _ s e in
    let (m, em, e₂) = bind-accept (wanted invokes t b) _ s e₁ in
    let (σ, eσ, e₃) = bind-accept (matched (fit r m)) _ s e₂ in
    let (es, is) = scopes_passed t a b m σ (bind σ (continue (silence t b) a)) s e₃ in
    let (k, p) = meeting-binds t a b r m σ (wanted_is (prefixed receives) t a r er) (wanted_is invokes t b m em) (matched-binds (fit r m) σ eσ) es h in
    subst Sound is (sound_bind σ (continue (silence t b) a) p k)

-- The successor of a term within the limits is right and well formed.
pub successor-kept : (t s : Term) (m : Move) → Within t → successor t m ≡ accept s → Right s × Formed s
unfolding successor
successor-kept t s (Kill a) w e = sound_kill t s a e (w.right, w.formed)
successor-kept t s (Communicate a b) w e = sound_communicate t s a b e (w.right, w.formed)
successor-kept t s (Timeout a) w e = sound_timeout t s a e (w.right, w.formed)
successor-kept t s (Elapse d) w e = sound_elapse t s d e (w.right, w.formed)
successor-kept t s (Unfold a) w e = sound_unfold t s a e w.small (w.right, w.formed)
successor-kept t s (Extrude a) w e = sound_extrude t s a e (w.right, w.formed)

-- What the rules allow, and what a step then gives, is within the limits.
accepted-within : (t s : Term) (m : Option Move) (room : ℕ) → Within t → Accepted t m room s → Within s
accepted-within t s m room w a =
    let (r, f) = successor-kept t s a.move w a.moves in
    record { right = r; formed = f; small = a.small; shallow = a.shallow }

pub step_within : (t s : Term) (m : Option Move) (room : ℕ) → Within t → step_term t m room ≡ accept s → Within s
step_within t s m room w e = accepted-within t s m room w (step_accepted t s m room e)
