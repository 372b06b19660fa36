-- Answers where no client signs in.
use Rattle.std.proofs.Common.{◌≡◌, ℕ, Bool, true, false, cond, ◌||◌, ◌==◌, List, codes, bytes_eq, None, is_some, map, string_bytes, sym, subst, ap, ◌∙◌}
use Rattle.serve_handshakes.specs.Answering.{AnsweredAt, NamesNoToken, Seats, entered}
use Rattle.serve_handshakes.specs.Answers.{answer_in, lets_in, page_in, path_at, plain_in, socket_in}
use Rattle.serve_handshakes.specs.Greeting.{while_so_in}
use Rattle.serve_handshakes.specs.Seating.{seated_in}
use Rattle.serve_handshakes.specs.declared.answer.Answer.{Answer}
use Rattle.serve_handshakes.specs.declared.answer.Answer.TheVariants.{Socket, Page, Script, Health, Metrics, BadRequest, Forbidden, NotFound, NotAllowed, Options, NoHost, LongHead, LongBody, Elsewhere, Unwell, Draining, Full, Crowded, Hasty, Unauthorized}
use Rattle.serve_handshakes.specs.declared.answer.Site.{Site}
use Rattle.serve_handshakes.specs.declared.front.Wellness.{Wellness}
use Rattle.serve_handshakes.specs.declared.front.Wellness.TheVariants as wellness
use Rattle.serve_handshakes.specs.declared.head.Request.{Request}
use Rattle.serve_handshakes.specs.declared.seating.Admission.{Admission}
use Rattle.serve_handshakes.specs.declared.seating.Admission.TheVariants.{Welcome, OneTooMany, TooSoon, NoRoom}

-- who is welcome is let in
answered_at : (standing : Admission) (places : ℕ) (request : Request) (asked answer : Answer)
    → AnsweredAt standing None places request asked answer → answer ≡ seated_in standing places asked
answered_at Welcome places request asked answer h = h.2 ∙ ap (λ entry. entered Welcome places asked entry) h.1
answered_at OneTooMany places request asked answer h = h
answered_at TooSoon places request asked answer h = h
answered_at NoRoom places request asked answer h = h

pub seats_all : (places : ℕ) (request : Request) (asked answer : Answer) → Seats None places request asked answer
    → (standing : Admission) × (answer ≡ seated_in standing places asked)
seats_all places request (Socket told) answer h = (h.0, answered_at h.0 places request (Socket told) answer h.1)
seats_all places request Page answer h = (NoRoom, h)
seats_all places request Script answer h = (NoRoom, h)
seats_all places request Health answer h = (NoRoom, h)
seats_all places request Metrics answer h = (NoRoom, h)
seats_all places request BadRequest answer h = (NoRoom, h)
seats_all places request Forbidden answer h = (NoRoom, h)
seats_all places request NotFound answer h = (NoRoom, h)
seats_all places request NotAllowed answer h = (NoRoom, h)
seats_all places request Options answer h = (NoRoom, h)
seats_all places request NoHost answer h = (NoRoom, h)
seats_all places request LongHead answer h = (NoRoom, h)
seats_all places request LongBody answer h = (NoRoom, h)
seats_all places request Elsewhere answer h = (NoRoom, h)
seats_all places request Unwell answer h = (NoRoom, h)
seats_all places request Draining answer h = (NoRoom, h)
seats_all places request Full answer h = (NoRoom, h)
seats_all places request Crowded answer h = (NoRoom, h)
seats_all places request Hasty answer h = (NoRoom, h)
seats_all places request (Unauthorized why) answer h = (NoRoom, h)

-- ---- no answer of these tells anybody to sign in

either : (b : Bool) (x y : Answer) → NamesNoToken x → NamesNoToken y → NamesNoToken (cond b x y)
either true x y h k = h
either false x y h k = k

socket_names : (site : Site) (r : Request) → NamesNoToken (socket_in site r)
socket_names site r =
    either site.has_clients _ _
    (either (is_some r.accept) _ _ (either (lets_in (map string_bytes site.origins.now) r.origin) _ _ tt tt) tt) tt

page_names : (site : Site) (path : List ℕ) → NamesNoToken (page_in site path)
page_names site path =
    either (bytes_eq path (codes "/")) _ _ (either site.has_clients _ _ tt tt)
    (either (bytes_eq path (codes "/presence.js")) _ _ (either site.has_clients _ _ tt tt)
    (either (bytes_eq path (codes "/health")) _ _ tt
    (either (bytes_eq path (codes "/metrics")) _ _ (either site.has_metrics _ _ tt tt) tt)))

plain_names : (site : Site) (r : Request) → NamesNoToken (plain_in site r)
plain_names site r =
    either (bytes_eq r.method.now (codes "GET") || bytes_eq r.method.now (codes "HEAD")) _ _ (page_names site (path_at r.target.now))
    (either (bytes_eq r.method.now (codes "OPTIONS")) _ _ tt tt)

pub answer_names : (site : Site) (r : Request) → NamesNoToken (answer_in site r)
answer_names site r =
    either r.has_host _ _ (either r.has_long_body _ _ tt (either r.upgrades _ _ (socket_names site r) (plain_names site r))) tt

pub well_names : (well : Wellness) (asked : Answer) → NamesNoToken asked → NamesNoToken (while_so_in well asked)
well_names wellness.Well asked h = h
well_names wellness.Unwell (Socket told) h = tt
well_names wellness.Unwell Page h = tt
well_names wellness.Unwell Script h = tt
well_names wellness.Unwell Health h = tt
well_names wellness.Unwell Metrics h = tt
well_names wellness.Unwell BadRequest h = tt
well_names wellness.Unwell Forbidden h = tt
well_names wellness.Unwell NotFound h = tt
well_names wellness.Unwell NotAllowed h = tt
well_names wellness.Unwell Options h = tt
well_names wellness.Unwell NoHost h = tt
well_names wellness.Unwell LongHead h = tt
well_names wellness.Unwell LongBody h = tt
well_names wellness.Unwell Elsewhere h = tt
well_names wellness.Unwell Unwell h = tt
well_names wellness.Unwell Draining h = tt
well_names wellness.Unwell Full h = tt
well_names wellness.Unwell Crowded h = tt
well_names wellness.Unwell Hasty h = tt
well_names wellness.Unwell (Unauthorized why) h = h
well_names wellness.Draining (Socket told) h = tt
well_names wellness.Draining Page h = tt
well_names wellness.Draining Script h = tt
well_names wellness.Draining Health h = tt
well_names wellness.Draining Metrics h = tt
well_names wellness.Draining BadRequest h = tt
well_names wellness.Draining Forbidden h = tt
well_names wellness.Draining NotFound h = tt
well_names wellness.Draining NotAllowed h = tt
well_names wellness.Draining Options h = tt
well_names wellness.Draining NoHost h = tt
well_names wellness.Draining LongHead h = tt
well_names wellness.Draining LongBody h = tt
well_names wellness.Draining Elsewhere h = tt
well_names wellness.Draining Unwell h = tt
well_names wellness.Draining Draining h = tt
well_names wellness.Draining Full h = tt
well_names wellness.Draining Crowded h = tt
well_names wellness.Draining Hasty h = tt
well_names wellness.Draining (Unauthorized why) h = h

socket_names_at : (standing : Admission) (places : ℕ) (told : Bool) → NamesNoToken (seated_in standing places (Socket told))
socket_names_at Welcome places told = either (places == 0) _ _ tt tt
socket_names_at OneTooMany places told = tt
socket_names_at TooSoon places told = tt
socket_names_at NoRoom places told = tt

pub seats_name : (places : ℕ) (request : Request) (asked answer : Answer) → Seats None places request asked answer
    → NamesNoToken asked → NamesNoToken answer
seats_name places request (Socket told) answer h k =
    subst NamesNoToken (sym (answered_at h.0 places request (Socket told) answer h.1)) (socket_names_at h.0 places told)
seats_name places request Page answer h k = subst NamesNoToken (sym h) k
seats_name places request Script answer h k = subst NamesNoToken (sym h) k
seats_name places request Health answer h k = subst NamesNoToken (sym h) k
seats_name places request Metrics answer h k = subst NamesNoToken (sym h) k
seats_name places request BadRequest answer h k = subst NamesNoToken (sym h) k
seats_name places request Forbidden answer h k = subst NamesNoToken (sym h) k
seats_name places request NotFound answer h k = subst NamesNoToken (sym h) k
seats_name places request NotAllowed answer h k = subst NamesNoToken (sym h) k
seats_name places request Options answer h k = subst NamesNoToken (sym h) k
seats_name places request NoHost answer h k = subst NamesNoToken (sym h) k
seats_name places request LongHead answer h k = subst NamesNoToken (sym h) k
seats_name places request LongBody answer h k = subst NamesNoToken (sym h) k
seats_name places request Elsewhere answer h k = subst NamesNoToken (sym h) k
seats_name places request Unwell answer h k = subst NamesNoToken (sym h) k
seats_name places request Draining answer h k = subst NamesNoToken (sym h) k
seats_name places request Full answer h k = subst NamesNoToken (sym h) k
seats_name places request Crowded answer h k = subst NamesNoToken (sym h) k
seats_name places request Hasty answer h k = subst NamesNoToken (sym h) k
seats_name places request (Unauthorized why) answer h k = subst NamesNoToken (sym h) k
