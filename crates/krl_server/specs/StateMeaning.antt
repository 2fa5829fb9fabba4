-- What a server's state means.
use Rattle.std.specs.Prelude.{ℕ, List, slice_index_or}
use Rattle.krl_table.specs.Kept.{rows_of}
use Rattle.krl_server.specs.declared.state.State.{State}
use Rattle.krl_server.specs.declared.session.Session.{Session}
use Rattle.krl_server.specs.Servers.{Server, blank_session}

-- the session of a client
abbrev pub sessions_of : List Session → ℕ → Session
sessions_of sessions c = slice_index_or sessions c blank_session

-- what the state means
abbrev pub meaning : State → Server
meaning st = record {
  durable = st.durable;
  rows = rows_of st.table.map;
  sessions = sessions_of st.sessions;
  missing = st.missing;
}
